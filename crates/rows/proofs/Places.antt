-- What comes before the place behind a name. Assumes nothing.
use Rattle.std.proofs.Common.{◌≡◌, ℕ, ◌+◌, ◌<◌, Bool, true, false, eqb, ltb, List, [], ◌∷◌, ◌++◌, length, take, Ordering, Less, Equal, Greater, sym, refl, ap, ◌∙◌, subst, append_assoc, append-nil, arith}
use Rattle.std.proofs.lemmas.List.{take_at, length-append}
use Rattle.std.proofs.lemmas.Bool.{true≢false, both_ways, cond-false, le-ltb, ne_eqb}
use Rattle.std.specs.List.{AllByRecursion as All}
use Rattle.std.specs.Cmp.{nat_cmp_total}
use Rattle.std.specs.Cmp.Lexicographic.{lists_total}
use Rattle.std.specs.Ordering.{is_lt, is_le, ordering_reverse, ordering_then, nat_cmp}
use Rattle.paths.specs.declared.Path.{Path}
use Rattle.paths.specs.Names.{last_name, Under}
use Rattle.paths.specs.Order.{by_bytes, by_names}
use Rattle.paths.specs.Paths.{text, names}
use Rattle.paths.proofs.Joins.{Plain, good_parts, plain-from-fault, no_zero_plain}
use Rattle.paths.proofs.Laws.{NoZero, names-exact, prefix_first, between}
use Rattle.rows.specs.Maps.{Names, before}
use Rattle.rows.specs.Positions.{behind}
use Rattle.rows.proofs.Orders.{before-trans, before-le, shared, last_child}

-- ---- names without a zero byte

abbrev pub Clean : Names → Type 0
Clean ns = All NoZero ns

clean-plain : (ns : Names) → Plain ns → Clean ns
clean-plain [] h = tt
clean-plain (n ∷ ns) h = (no_zero_plain n h.0.1, clean-plain ns h.1)

pub clean_path : (p : Path) → Clean (names p)
clean_path p = clean-plain (names p) (plain-from-fault 0 (names p) (good_parts (text p) p.sound).1)

pub clean_at : (p : Names) (m : List ℕ) (ms : Names) → Clean (p ++ m ∷ ms) → NoZero m
clean_at [] m ms h = h.0
clean_at (n ∷ p) m ms h = clean_at p m ms h.1

-- ---- the order, as tests

not-lt-le : (k : Ordering) → is_lt k ≡ false → is_le (ordering_reverse k) ≡ true
not-lt-le Less h = absurd (true≢false h)
not-lt-le Equal h = refl
not-lt-le Greater h = refl

pub not_before-le : (q p : Names) → before q p ≡ false → is_le (by_names p q) ≡ true
not_before-le q p h = ap is_le ((lists_total (lists_total nat_cmp_total)).antisymm p q) ∙ not-lt-le (by_names q p) h

-- a < b ≤ c
pub before_then_le : (a b c : Names) → before a b ≡ true → is_le (by_names b c) ≡ true → before a c ≡ true
before_then_le a b c h g = go (by_names b c) refl g where
  go : (k : Ordering) → by_names b c ≡ k → is_le k ≡ true → before a c ≡ true
  go Less e g = before-trans a b c h (ap is_lt e)
  go Equal e g = subst (λ z. before a z ≡ true) (names-exact b c e) h
  go Greater e g = absurd (true≢false (sym g))

-- ---- a name and the next

rank_zero : (x : ℕ) → 0 < x → nat_cmp x 0 ≡ Greater
rank_zero x h = cond-false (ltb x 0) _ _ (le-ltb x 0 (omega arith)) ∙ cond-false (eqb x 0) _ _ (ne_eqb x 0 (omega arith))

near : (m a : List ℕ) (k : Ordering) → NoZero m → is_lt (ordering_then (by_bytes m (behind a)) k) ≡ is_le (by_bytes m a)
near [] [] k h = refl
near [] (y ∷ a) k h = refl
near (x ∷ m) [] k h = ap (λ r. is_lt (ordering_then (ordering_then r (by_bytes m [])) k)) (rank_zero x h.0)
near (x ∷ m) (y ∷ a) k h = go (nat_cmp x y) (near m a k h.1) where
  go : (r : Ordering) → is_lt (ordering_then (by_bytes m (behind a)) k) ≡ is_le (by_bytes m a) → is_lt (ordering_then (ordering_then r (by_bytes m (behind a))) k) ≡ is_le (ordering_then r (by_bytes m a))
  go Less e = refl
  go Equal e = e
  go Greater e = refl

take-child : (p : Names) (m : List ℕ) (ms : Names) (k : ℕ) → k ≡ length p → last_name (take (k + 1) (p ++ m ∷ ms)) ≡ m
take-child p m ms k e =
    let n : length (p ++ m ∷ []) ≡ k + 1 = length-append p (m ∷ []) ∙ ap (λ z. z + 1) (sym e) in
    ap (λ z. last_name (take (k + 1) z)) (sym (append_assoc p (m ∷ []) ms)) ∙ ap last_name (take_at (p ++ m ∷ []) ms (k + 1) n) ∙ last_child p m

module _ (p : Names) (a : List ℕ) where
  pub under-place : (m : List ℕ) (ms : Names) → NoZero m → before (p ++ m ∷ ms) (p ++ behind a ∷ []) ≡ is_le (by_bytes m a)
  under-place m ms h = ap is_lt (shared p (m ∷ ms) (behind a ∷ [])) ∙ near m a (by_names ms []) h

  pub self_place : before p (p ++ behind a ∷ []) ≡ true
  self_place = ap (λ z. before z (p ++ behind a ∷ [])) (sym (append-nil p)) ∙ ap is_lt (shared p [] (behind a ∷ []))

  -- what does not begin with p comes before p, or after all that does
  pub apart_place : (q : Names) → (Under p q → ⊥) → before q p ≡ before q (p ++ behind a ∷ [])
  apart_place q n = go (before q p) (before q (p ++ behind a ∷ [])) refl refl where
    go : (s t : Bool) → before q p ≡ s → before q (p ++ behind a ∷ []) ≡ t → s ≡ t
    go true true e f = refl
    go true false e f = absurd (both_ways (before q (p ++ behind a ∷ [])) f (before_then_le q p (p ++ behind a ∷ []) e (prefix_first p (behind a ∷ []))))
    go false true e f = absurd (n (between p q (p ++ behind a ∷ []) (not_before-le q p e) (before-le q (p ++ behind a ∷ []) f) (behind a ∷ [], refl)))
    go false false e f = refl

  module _ (q : Names) (u : Under p q) where
    pub level_place : length q ≡ length p → before q (p ++ behind a ∷ []) ≡ true
    level_place l = go u.0 u.1 where
      go : (rest : Names) → q ≡ p ++ rest → before q (p ++ behind a ∷ []) ≡ true
      go [] e = ap (λ z. before z (p ++ behind a ∷ [])) (e ∙ append-nil p) ∙ self_place
      go (m ∷ rest) e = absurd (omega (arith, ap length e, length-append p (m ∷ rest)))

    pub below-place : Clean q → (length q ≡ length p → ⊥) → (k : ℕ) → k ≡ length p → is_le (by_bytes (last_name (take (k + 1) q)) a) ≡ before q (p ++ behind a ∷ [])
    below-place h l k d = go u.0 u.1 where
      go : (rest : Names) → q ≡ p ++ rest → is_le (by_bytes (last_name (take (k + 1) q)) a) ≡ before q (p ++ behind a ∷ [])
      go [] e = absurd (l (ap length (e ∙ append-nil p)))
      go (m ∷ rest) e =
          ap (λ z. is_le (by_bytes (last_name (take (k + 1) z)) a)) e ∙ ap (λ z. is_le (by_bytes z a)) (take-child p m rest k d) ∙ sym (under-place m rest (clean_at p m rest (subst Clean e h))) ∙ ap (λ z. before z (p ++ behind a ∷ [])) (sym e)
