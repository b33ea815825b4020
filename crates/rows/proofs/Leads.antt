-- The rows at the front that come before a place. Assumes nothing.
use Rattle.std.proofs.Common.{◌≡◌, ℕ, zero, suc, ◌+◌, ◌<◌, ◌≤◌, Bool, true, false, cond, ◌&&◌, List, [], ◌∷◌, length, get_or, drop, set, is_some, Some, None, Option, slice_get, MatchOption, Bor, Ordering, Less, Equal, Greater, sym, refl, ap, ◌∙◌, subst, inl, inr, arith}
use Rattle.std.proofs.lemmas.Bool.{true≢false, both_ways, cond-true, cond-false}
use Rattle.std.proofs.lemmas.Option.{none-some, same_Some}
use Rattle.std.specs.Bool.{then_some}
use Rattle.std.specs.List.Sorted.{IsPartitionPoint, IsPartitionedBy}
use Rattle.std.specs.List.{AllAdjacentBelow, IsAllAdjacentAnswer}
use native.Mathlib.Numerals.{unary_clauses}
use Rattle.std.specs.Option.{option_map, option_copied}
use Rattle.std.specs.Ordering.{is_lt, is_eq}
use Rattle.paths.specs.Order.{by_names}
use Rattle.paths.specs.Paths.{names}
use Rattle.rows.specs.declared.row.Row.{Row}
use Rattle.rows.specs.Maps.{Names, before, first, is_at, at, has, ascending, replaced}
use Rattle.rows.specs.Rows.{row_of, rows_of}
use Rattle.rows.specs.Positions.{lead, Here}
use Rattle.rows.proofs.Orders.{before-trans, same-is}
use Rattle.rows.proofs.Firsts.{In, first_no, head_least, tail-ascends}

lt-not-eq : (k : Ordering) → is_lt k ≡ true → is_eq k ≡ false
lt-not-eq Less h = refl
lt-not-eq Equal h = absurd (true≢false (sym h))
lt-not-eq Greater h = refl

module _ {V : Type 0} where
  -- ---- how many they are

  abbrev pub is_ahead : Names → Row V → Bool
  is_ahead p r = before (names r.path) p

  in-at : (rs : List (Row V)) (i : ℕ) (d : Row V) → i < length rs → In (rows_of rs) (row_of (get_or rs i d))
  in-at [] i d h = absurd (omega arith)
  in-at (r ∷ rs) zero d h = inl refl
  in-at (r ∷ rs) (suc i) d h = inr (in-at rs i d (omega arith))

  -- the rows that come before a place stand in front of those that do not
  pub ahead-parted : (p : Names) (rs : List (Row V)) → ascending (rows_of rs) ≡ true → IsPartitionedBy (is_ahead p) rs
  ahead-parted p [] up i j d le h b = absurd (omega arith)
  ahead-parted p (r ∷ rs) up zero zero d le h b = b
  ahead-parted p (r ∷ rs) up zero (suc j) d le h b =
      before-trans (names r.path) (names (get_or rs j d).path) p (head_least (row_of r) (rows_of rs) up (row_of (get_or rs j d)) (in-at rs j d (omega arith))) b
  ahead-parted p (r ∷ rs) up (suc i) zero d le h b = absurd (omega arith)
  ahead-parted p (r ∷ rs) up (suc i) (suc j) d le h b = ahead-parted p rs (tail-ascends (row_of r) (rows_of rs) up) i j d (omega arith) (omega arith) b

  pub lead-point : (p : Names) (rs : List (Row V)) (i : ℕ) → i ≤ length rs → IsPartitionPoint (λ r. is_ahead p r ≡ true) (λ r. is_ahead p r ≡ false) rs i → i ≡ lead p (rows_of rs)
  lead-point p [] i h point = omega arith
  lead-point p (r ∷ rs) zero h point = sym (cond-false (is_ahead p r) (suc (lead p (rows_of rs))) 0 (point.1 0 r (omega arith) (omega arith)))
  lead-point p (r ∷ rs) (suc i) h point =
      let rest = lead-point p rs i (omega arith) (λ k d low high. point.0 (suc k) d (omega arith) (omega arith), λ k d low high. point.1 (suc k) d (omega arith) (omega arith)) in
      ap suc rest ∙ sym (cond-true (is_ahead p r) (suc (lead p (rows_of rs))) 0 (point.0 0 r (omega arith) (omega arith)))

  -- ---- the row at an index

  -- what is asked of the first of the rows from an index on
  pub asked-at : {Y : Type 0} (F : List (Names × V) → Y) (G : Option (Row V) → Y) → F [] ≡ G None → ((r : Row V) (rs : List (Row V)) → F (rows_of (r ∷ rs)) ≡ G (Some r)) → (rs : List (Row V)) (i : ℕ) → F (drop i (rows_of rs)) ≡ G (slice_get rs i)
  asked-at F G none some [] i = ap F (nothing i) ∙ none where
    nothing : (i : ℕ) → ◌≡◌ {A = List (Names × V)} (drop i []) []
    nothing zero = refl
    nothing (suc i) = refl
  asked-at F G none some (r ∷ rs) zero = some r rs
  asked-at F G none some (r ∷ rs) (suc i) = asked-at F G none some rs i

  -- the row behind those that come before a place does not come before it
  pub not_ahead : (p : Names) (rs : List (Row V)) (r : Row V) → Some r ≡ slice_get rs (lead p (rows_of rs)) → is_ahead p r ≡ false
  not_ahead p [] r h = absurd (none-some r (sym h))
  not_ahead p (x ∷ rs) r h = go (is_ahead p x) refl (not_ahead p rs r) h where
    go : (t : Bool) → is_ahead p x ≡ t → (Some r ≡ slice_get rs (lead p (rows_of rs)) → is_ahead p r ≡ false) → Some r ≡ slice_get (x ∷ rs) (cond t (suc (lead p (rows_of rs))) 0) → is_ahead p r ≡ false
    go true e more h = more h
    go false e more h = ap (is_ahead p) (same_Some r x h) ∙ e

  -- ---- neighbours

  rises_on : (rs : List (Row V)) → AllAdjacentBelow (λ a b. true ≡ before (names a.path) (names b.path)) rs (length rs) → ascending (rows_of rs) ≡ true
  rises_on [] h = refl
  rises_on (r ∷ []) h = refl
  rises_on (r ∷ s ∷ rs) h = ap (λ b. b && ascending (rows_of (s ∷ rs))) (sym (h 0 r (omega arith))) ∙ rises_on (s ∷ rs) (λ k d l. simp unary_clauses (simp unary_clauses at (h (suc k) d (omega arith))))

  rises-not : (rs : List (Row V)) (k : ℕ) → k + 1 < length rs → ((d : Row V) → false ≡ before (names (get_or rs k d).path) (names (get_or rs (k + 1) d).path)) → ascending (rows_of rs) ≡ false
  rises-not [] k l h = absurd (omega arith)
  rises-not (r ∷ []) k l h = absurd (omega arith)
  rises-not (r ∷ s ∷ rs) zero l h = ap (λ b. b && ascending (rows_of (s ∷ rs))) (sym (h r))
  rises-not (r ∷ s ∷ rs) (suc k) l h = go (before (names r.path) (names s.path)) (rises-not (s ∷ rs) k (omega arith) (λ d. simp unary_clauses (simp unary_clauses at (h d)))) where
    go : (b : Bool) → ascending (rows_of (s ∷ rs)) ≡ false → (b && ascending (rows_of (s ∷ rs))) ≡ false
    go true e = e
    go false e = refl

  pub rises-answer : (rs : List (Row V)) (b : Bool) → IsAllAdjacentAnswer (λ x y t. t ≡ before (names x.path) (names y.path)) rs b → b ≡ ascending (rows_of rs)
  rises-answer rs true h = sym (rises_on rs h)
  rises-answer rs false h = sym (rises-not rs h.0 h.1 h.2)

  -- ---- the row at a path

  abbrev value_in : Names → Option (Row V) → Option V
  value_in p None = None
  value_in p (Some r) = cond (is_at p (row_of r)) (Some r.value) None

  abbrev at_head : Names → List (Names × V) → Option V
  at_head p [] = None
  at_head p (r ∷ rs) = cond (is_at p r) (Some r.1) None

  at-lead : (rs : List (Names × V)) (p : Names) → ascending rs ≡ true → at rs p ≡ at_head p (drop (lead p rs) rs)
  at-lead [] p up = refl
  at-lead (r ∷ rs) p up = go (before r.0 p) refl (at-lead rs p (tail-ascends r rs up)) where
    later : before r.0 p ≡ false → (x : Names × V) → In rs x → is_at p x ≡ false
    later e x i = by (is_at p x) refl where
      by : (t : Bool) → is_at p x ≡ t → is_at p x ≡ false
      by true f = absurd (both_ways (before r.0 p) e (subst (λ z. before r.0 z ≡ true) (same-is x.0 p f) (head_least r rs up x i)))
      by false f = f

    go : (t : Bool) → before r.0 p ≡ t → at rs p ≡ at_head p (drop (lead p rs) rs) → at (r ∷ rs) p ≡ at_head p (drop (cond t (suc (lead p rs)) 0) (r ∷ rs))
    go true e more = ap (option_map (λ x. x.1)) (cond-false (is_at p r) (Some r) (first (is_at p) rs) (lt-not-eq (by_names r.0 p) e)) ∙ more
    go false e more = by (is_at p r) where
      by : (b : Bool) → option_map (λ x. x.1) (cond b (Some r) (first (is_at p) rs)) ≡ cond b (Some r.1) None
      by true = refl
      by false = ap (option_map (λ x. x.1)) (first_no (is_at p) rs (later e))

  module _ (rs : List (Row V)) (up : ascending (rows_of rs) ≡ true) (q p : Names) (s : q ≡ p) where
    -- the row at that place decides
    pub at_read : (o : Option (Row V)) → o ≡ slice_get rs (lead q (rows_of rs)) → at (rows_of rs) p ≡ value_in p o
    at_read o e =
        at-lead (rows_of rs) p up ∙ asked-at (at_head p) (value_in p) refl (λ r rest. refl) rs (lead p (rows_of rs))
        ∙ ap (λ z. value_in p (slice_get rs (lead z (rows_of rs)))) (sym s) ∙ ap (value_in p) (sym e)

    pub find_read : (r : Bor (Row V)) (v : Bor V) → v.now ≡ r.now.value → Some r.now ≡ slice_get rs (lead q (rows_of rs)) → (b : Bool) → b ≡ is_at p (row_of r.now) → option_copied (then_some b v) ≡ at (rows_of rs) p
    find_read r v same e b t = by b ∙ ap (λ c. cond c (Some r.now.value) None) t ∙ sym (at_read (Some r.now) e) where
      by : (b : Bool) → option_copied (then_some b v) ≡ cond b (Some r.now.value) None
      by true = ap Some same
      by false = refl

    pub locate_read : (i : ℕ) → i ≡ lead q (rows_of rs) → (r : Row V) → i < length rs → Some r ≡ slice_get rs i → (b : Bool) → b ≡ is_at p (row_of r) → MatchOption (then_some b i) (at (rows_of rs) p ≡ None) (Here rs p)
    locate_read i n r h e b t = by b (at_read (Some r) (e ∙ ap (slice_get rs) n) ∙ ap (λ c. cond c (Some r.value) None) (sym t)) where
      by : (b : Bool) → at (rows_of rs) p ≡ cond b (Some r.value) None → MatchOption (then_some b i) (at (rows_of rs) p ≡ None) (Here rs p)
      by true a = record { value = n ∙ ap (λ z. lead z (rows_of rs)) s; within = h; there = ap is_some a }
      by false a = a

  -- the value written there
  pub set_lead : (rs : List (Names × V)) → ascending rs ≡ true → (p : Names) (v : V) → has rs p ≡ true → set rs (lead p rs) (p, v) ≡ replaced rs p v
  set_lead [] up p v h = refl
  set_lead (r ∷ rs) up p v h = go (before r.0 p) refl (set_lead rs (tail-ascends r rs up) p v) (sym (ap is_some (at-lead (r ∷ rs) p up)) ∙ h) where
    here : (b : Bool) → is_at p r ≡ b → is_some (cond b (Some r.1) None) ≡ true → (p, v) ∷ rs ≡ cond b ((r.0, v) ∷ rs) (r ∷ replaced rs p v)
    here true e k = ap (λ q. (q, v) ∷ rs) (sym (same-is r.0 p e))
    here false e k = absurd (true≢false (sym k))

    go : (t : Bool) → before r.0 p ≡ t → (has rs p ≡ true → set rs (lead p rs) (p, v) ≡ replaced rs p v) → is_some (at_head p (drop (cond t (suc (lead p rs)) 0) (r ∷ rs))) ≡ true → set (r ∷ rs) (cond t (suc (lead p rs)) 0) (p, v) ≡ replaced (r ∷ rs) p v
    go true e more k =
        ap (λ xs. r ∷ xs) (more (ap is_some (at-lead rs p (tail-ascends r rs up)) ∙ k))
        ∙ sym (cond-false (is_at p r) ((r.0, v) ∷ rs) (r ∷ replaced rs p v) (lt-not-eq (by_names r.0 p) e))
    go false e more k = here (is_at p r) refl k
