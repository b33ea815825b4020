-- Where an edit of rows begins and ends. Assumes nothing.
use Rattle.std.proofs.Common.{◌≡◌, ℕ, zero, suc, ◌+◌, ◌-◌, ◌≤◌, Bool, true, false, cond, not, ◌&&◌, List, [], ◌∷◌, ◌++◌, length, take, drop, Some, None, Option, slice_get, MatchOption, Bor, inl, inr, sym, refl, ap, ◌∙◌}
use native.Mathlib.Numerals.{unary_clauses}
use mathlib.Core.Bool.{and_assoc}
use mathlib.Core.List.{map-append}
use Rattle.std.proofs.lemmas.List.{take-map, drop-map, drop-drop}
use Rattle.std.proofs.Math.Bool.{and-true}
use Rattle.std.proofs.lemmas.Bool.{true≢false, and_parts, false_from_ne_true, cond-true, cond-false}
use Rattle.std.proofs.lemmas.Option.{none-some, same_Some}
use Rattle.std.specs.Bool.{then_some}
use Rattle.std.specs.Option.{option_copied}
use Rattle.std.specs.Ordering.{is_le}
use Rattle.paths.specs.Order.{by_names}
use Rattle.paths.specs.Paths.{names}
use Rattle.paths.proofs.Laws.{prefix_first, between}
use Rattle.rows.specs.declared.row.Row.{Row}
use Rattle.rows.specs.Maps.{Names, before, under, above, ascending, without}
use Rattle.rows.specs.Rows.{row_of, rows_of}
use Rattle.rows.specs.Positions.{lead, led_under}
use Rattle.rows.specs.Tables.{spliced, Spliced}
use Rattle.rows.proofs.Orders.{before-le, before-trans, not_before_self, le-before}
use Rattle.rows.proofs.Firsts.{In, head_least, tail-ascends}
use Rattle.rows.proofs.Leads.{asked-at}
use Rattle.rows.proofs.Places.{not_before-le}
use Rattle.rows.proofs.Changed.{under-says}

-- what is under a path does not come before it
pub under_late : (p q : Names) → under p q ≡ true → before q p ≡ false
under_late p q u = false_from_ne_true (before q p) (λ e. not_before_self p (le-before p q p low e)) where
  low : is_le (by_names p q) ≡ true
  low = let w = (under-says p q).0 u in ap (λ z. is_le (by_names p z)) w.1 ∙ prefix_first p w.0

module _ {V : Type 0} where
  pub ascending-drop : (k : ℕ) (rs : List (Names × V)) → ascending rs ≡ true → ascending (drop k rs) ≡ true
  ascending-drop zero rs up = up
  ascending-drop (suc k) [] up = refl
  ascending-drop (suc k) (r ∷ rs) up = ascending-drop k rs (tail-ascends r rs up)

  -- ---- rows put among rows

  -- the rows in front of the place come before the new ones
  pub splice_rises : (n : Names × V) (new rs : List (Names × V)) → ascending rs ≡ true → ascending (spliced (n ∷ new) rs) ≡ ascending ((n ∷ new) ++ drop (lead n.0 rs) rs)
  splice_rises n new [] up = refl
  splice_rises n new (r ∷ rs) up = go (before r.0 n.0) refl (splice_rises n new rs (tail-ascends r rs up)) where
    first-is : before r.0 n.0 ≡ true → (rs : List (Names × V)) → above r.0 rs ≡ true → above r.0 (spliced (n ∷ new) rs) ≡ true
    first-is e [] h = e
    first-is e (s ∷ rs) h = elim (before s.0 n.0) as (λ t. above r.0 (take (cond t (suc (lead n.0 rs)) 0) (s ∷ rs) ++ ((n ∷ new) ++ drop (cond t (suc (lead n.0 rs)) 0) (s ∷ rs))) ≡ true) [ true ↦ h | false ↦ e ]

    go : (t : Bool) → before r.0 n.0 ≡ t → ascending (spliced (n ∷ new) rs) ≡ ascending ((n ∷ new) ++ drop (lead n.0 rs) rs)
        → ascending (take (cond t (suc (lead n.0 rs)) 0) (r ∷ rs) ++ ((n ∷ new) ++ drop (cond t (suc (lead n.0 rs)) 0) (r ∷ rs))) ≡ ascending ((n ∷ new) ++ drop (cond t (suc (lead n.0 rs)) 0) (r ∷ rs))
    go true e more = ap (λ b. b && ascending (spliced (n ∷ new) rs)) (first-is e rs (and_parts (above r.0 rs) (ascending rs) up).0) ∙ more
    go false e more = refl

  -- rows and others that rise, and the last of the rows before the first of the others
  last_joins : (new : List (Row V)) (ds : List (Names × V)) → ascending ds ≡ true → (y : Row V) → Some y ≡ slice_get new (length new - 1) → ascending (rows_of new ++ ds) ≡ (ascending (rows_of new) && above (names y.path) ds)
  last_joins [] ds up y t = absurd (none-some y (sym t))
  last_joins (n ∷ []) ds up y t = ap (λ b. above (names n.path) ds && b) up ∙ and-true (above (names n.path) ds) ∙ ap (λ r. above (names r.path) ds) (sym (same_Some y n t))
  last_joins (n ∷ m ∷ new) ds up y t =
      ap (λ b. before (names n.path) (names m.path) && b) (last_joins (m ∷ new) ds up y (simp unary_clauses (simp unary_clauses at t))) ∙ sym (and_assoc (before (names n.path) (names m.path)) (ascending (rows_of (m ∷ new))) (above (names y.path) ds))

  -- the first and the last of the new rows, and the place of the first
  module _ (rs new : List (Row V)) (up : ascending (rows_of rs) ≡ true) (x y : Row V) (head : Some x ≡ slice_get new 0) (end : Some y ≡ slice_get new (length new - 1)) (at : ℕ) (e : at ≡ lead (names x.path) (rows_of rs)) where
    spliced-is : spliced (rows_of new) (rows_of rs) ≡ rows_of (take at rs ++ (new ++ drop at rs))
    spliced-is = go new head where
      go : (ns : List (Row V)) → Some x ≡ slice_get ns 0 → spliced (rows_of ns) (rows_of rs) ≡ rows_of (take at rs ++ (ns ++ drop at rs))
      go [] h = absurd (none-some x (sym h))
      go (n ∷ ns) h =
          ap (λ k. take k (rows_of rs) ++ (rows_of (n ∷ ns) ++ drop k (rows_of rs))) (ap (λ r. lead (names r.path) (rows_of rs)) (sym (same_Some x n h)) ∙ sym e)
          ∙ simp (take-map, drop-map, map-append)

    -- the last of them comes before what follows
    splice_test : ascending (spliced (rows_of new) (rows_of rs)) ≡ (ascending (rows_of new) && above (names y.path) (drop at (rows_of rs)))
    splice_test = go new head end where
      go : (ns : List (Row V)) → Some x ≡ slice_get ns 0 → Some y ≡ slice_get ns (length ns - 1) → ascending (spliced (rows_of ns) (rows_of rs)) ≡ (ascending (rows_of ns) && above (names y.path) (drop at (rows_of rs)))
      go [] h t = absurd (none-some x (sym h))
      go (n ∷ ns) h t =
          splice_rises (row_of n) (rows_of ns) (rows_of rs) up
          ∙ ap (λ k. ascending (rows_of (n ∷ ns) ++ drop k (rows_of rs))) (ap (λ r. lead (names r.path) (rows_of rs)) (sym (same_Some x n h)) ∙ sym e)
          ∙ last_joins (n ∷ ns) (drop at (rows_of rs)) (ascending-drop at (rows_of rs) up) y t

    pub splice_answer : at ≤ length rs → (b : Bool) → b ≡ (ascending (rows_of new) && above (names y.path) (drop at (rows_of rs))) → MatchOption (then_some b at) (ascending (spliced (rows_of new) (rows_of rs)) ≡ false) (Spliced rs new)
    splice_answer within true t = record { rows = spliced-is; rises = splice_test ∙ sym t; within = within }
    splice_answer within false t = splice_test ∙ sym t

  -- whether a path comes before the row at an index
  abbrev above_in : Names → Option (Row V) → Bool
  above_in p None = true
  above_in p (Some r) = before p (names r.path)

  pub leads_read : (p : Names) (rs : List (Row V)) (i : ℕ) (o : Option (Bor (Row V))) → option_copied o ≡ slice_get rs i → (b : Bool) → MatchOption o (b ≡ true) (λ r. b ≡ before p (names r.now.path)) → b ≡ above p (drop i (rows_of rs))
  leads_read p rs i o e b h = by o h ∙ ap (above_in p) e ∙ sym (asked-at (above p) (above_in p) refl (λ r rest. refl) rs i) where
    by : (o : Option (Bor (Row V))) → MatchOption o (b ≡ true) (λ r. b ≡ before p (names r.now.path)) → b ≡ above_in p (option_copied o)
    by None h = h
    by (Some r) h = h

  -- ---- rows under a path

  module _ (p : Names) where
    all_stay : (rs : List (Names × V)) → ((x : Names × V) → In rs x → under p x.0 ≡ false) → without p rs ≡ rs
    all_stay [] h = refl
    all_stay (r ∷ rs) h = cond-true (not (under p r.0)) (r ∷ without p rs) (without p rs) (ap not (h r (inl refl))) ∙ ap (λ xs. r ∷ xs) (all_stay rs (λ x i. h x (inr i)))

    -- of the rows, as they were asked
    pub led_stop : (r : Row V) (rs : List (Row V)) → under p (names r.path) ≡ false → led_under p (rows_of (r ∷ rs)) ≡ 0
    led_stop r rs e = cond-false (under p (names r.path)) (suc (led_under p (rows_of rs))) 0 e

    pub led_go : (r : Row V) (rs : List (Row V)) → under p (names r.path) ≡ true → led_under p (rows_of (r ∷ rs)) ≡ suc (led_under p (rows_of rs))
    led_go r rs e = cond-true (under p (names r.path)) (suc (led_under p (rows_of rs))) 0 e

    -- no row is before p, as the first is not
    abbrev late : List (Names × V) → Type 0
    late [] = Unit {0}
    late (r ∷ rs) = before r.0 p ≡ false

    late-tail : (r : Names × V) (rs : List (Names × V)) → ascending (r ∷ rs) ≡ true → before r.0 p ≡ false → late rs
    late-tail r [] up h = tt
    late-tail r (s ∷ rs) up h = false_from_ne_true (before s.0 p) (λ e. true≢false (sym (before-trans r.0 s.0 p (head_least r (s ∷ rs) up s (inl refl)) e) ∙ h))

    -- from the first on that does not come before p, those under p come first
    behind-led : (rs : List (Names × V)) → ascending rs ≡ true → late rs → without p rs ≡ drop (led_under p rs) rs
    behind-led [] up h = refl
    behind-led (r ∷ rs) up h = go (under p r.0) refl (behind-led rs (tail-ascends r rs up) (late-tail r rs up h)) where
      off : under p r.0 ≡ false → (x : Names × V) → In rs x → under p x.0 ≡ false
      off e x i =
          false_from_ne_true (under p x.0)
          (λ u. true≢false (sym ((under-says p r.0).1 (between p r.0 x.0 (not_before-le r.0 p h) (before-le r.0 x.0 (head_least r rs up x i)) ((under-says p x.0).0 u))) ∙ e))

      go : (t : Bool) → under p r.0 ≡ t → without p rs ≡ drop (led_under p rs) rs → cond (not t) (r ∷ without p rs) (without p rs) ≡ drop (cond t (suc (led_under p rs)) 0) (r ∷ rs)
      go true e more = more
      go false e more = ap (λ xs. r ∷ xs) (all_stay rs (off e))

    -- the rows in front, and those behind what is under p
    abbrev left : ℕ → List (Names × V) → List (Names × V)
    left k rs = take k rs ++ drop (led_under p (drop k rs)) (drop k rs)

    parted : (rs : List (Names × V)) → ascending rs ≡ true → without p rs ≡ left (lead p rs) rs
    parted [] up = refl
    parted (r ∷ rs) up = go (before r.0 p) refl (parted rs (tail-ascends r rs up)) where
      clear : before r.0 p ≡ true → under p r.0 ≡ false
      clear e = false_from_ne_true (under p r.0) (λ u. true≢false (sym e ∙ under_late p r.0 u))

      go : (t : Bool) → before r.0 p ≡ t → without p rs ≡ left (lead p rs) rs → without p (r ∷ rs) ≡ left (cond t (suc (lead p rs)) 0) (r ∷ rs)
      go true e more = cond-true (not (under p r.0)) (r ∷ without p rs) (without p rs) (ap not (clear e)) ∙ ap (λ xs. r ∷ xs) more
      go false e more = behind-led (r ∷ rs) up e

    pub apart : (rs : List (Row V)) → ascending (rows_of rs) ≡ true → (start : ℕ) → start ≡ lead p (rows_of rs) → (count : ℕ) → count ≡ led_under p (rows_of (drop start rs)) → without p (rows_of rs) ≡ rows_of (take start rs ++ drop (start + count) rs)
    apart rs up start e count n =
        parted (rows_of rs) up ∙ ap (λ k. left k (rows_of rs)) (sym e)
        ∙ ap (λ k. take start (rows_of rs) ++ drop k (drop start (rows_of rs))) (ap (led_under p) (drop-map row_of start rs) ∙ sym n)
        ∙ ap (λ ys. take start (rows_of rs) ++ ys) (drop-drop count start (rows_of rs))
        ∙ simp (map-append, take-map, drop-map)
