-- Paths at and below paths. Assumes nothing.
use Rattle.std.proofs.Common.{◌≡◌, ℕ, Bool, true, false, ◌&&◌, ◌||◌, ◌⊎◌, List, [], ◌∷◌, ◌++◌, map, Ordering, Less, Equal, Greater, sym, refl, ap, ◌∙◌, subst, inl, inr, ⊎_elim}
use Rattle.std.proofs.lemmas.Bool.{true≢false, and_parts, and_from, and_left, and_right, both_ways, false_from_ne_true}
use Rattle.std.specs.Cmp.{nat_cmp_total}
use Rattle.std.specs.Cmp.Lexicographic.{lists_total}
use Rattle.std.specs.Ordering.{is_eq, ordering_reverse, ordering_then}
use Rattle.paths.specs.Names.{prefixes, parent}
use Rattle.paths.specs.Order.{by_bytes, by_names}
use Rattle.paths.proofs.Laws.{itself, bytes-exact}
use Rattle.rows.specs.Maps.{Names, under}
use Rattle.rows.specs.Builds.{same, among}
use Rattle.rows.proofs.Orders.{is-equal, as_child}

abbrev eq : List ℕ → List ℕ → Bool
eq k n = is_eq (by_bytes k n)

eq-exact : (k n : List ℕ) → eq k n ≡ true → k ≡ n
eq-exact k n h = bytes-exact k n (is-equal (by_bytes k n) h)

eq-itself : (n : List ℕ) → eq n n ≡ true
eq-itself n = ap is_eq (itself (lists_total nat_cmp_total) n)

is_eq_reversed : (r : Ordering) → is_eq (ordering_reverse r) ≡ is_eq r
is_eq_reversed Less = refl
is_eq_reversed Equal = refl
is_eq_reversed Greater = refl

eq_swap : (n k : List ℕ) → eq n k ≡ eq k n
eq_swap n k = ap is_eq ((lists_total nat_cmp_total).antisymm n k) ∙ is_eq_reversed (by_bytes k n)

pub under_goes : (p rest : Names) → under p (p ++ rest) ≡ true
under_goes [] rest = refl
under_goes (n ∷ p) rest = and_from (eq n n) (under p (p ++ rest)) (eq-itself n) (under_goes p rest)

pub under_rest : (p q : Names) → under p q ≡ true → (rest : Names) × (q ≡ p ++ rest)
under_rest [] q h = (q, refl)
under_rest (n ∷ p) [] h = absurd (true≢false (sym h))
under_rest (n ∷ p) (k ∷ q) h =
    let s = and_parts (eq k n) (under p q) h in
    let w = under_rest p q s.1 in
    let e = eq-exact k n s.0 in
    (w.0, λ i. e i ∷ w.1 i)

pub under-itself : (p : Names) → under p p ≡ true
under-itself [] = refl
under-itself (n ∷ p) = and_from (eq n n) (under p p) (eq-itself n) (under-itself p)

pub under-trans : (p q r : Names) → under p q ≡ true → under q r ≡ true → under p r ≡ true
under-trans [] q r h g = refl
under-trans (n ∷ p) [] r h g = absurd (true≢false (sym h))
under-trans (n ∷ p) (k ∷ q) [] h g = absurd (true≢false (sym g))
under-trans (n ∷ p) (k ∷ q) (j ∷ r) h g =
    let s = and_parts (eq k n) (under p q) h in
    let t = and_parts (eq j k) (under q r) g in
    and_from (eq j n) (under p r) (ap (λ x. eq x n) (eq-exact j k t.0) ∙ s.0) (under-trans p q r s.1 t.1)

-- each at or below the other: the same
pub same-under : (p q : Names) → same p q ≡ (under p q && under q p)
same-under [] [] = refl
same-under [] (k ∷ q) = refl
same-under (n ∷ p) [] = refl
same-under (n ∷ p) (k ∷ q) = go (by_bytes k n) (eq n k) (eq_swap n k) (same-under p q) where
  go : (r : Ordering) (t : Bool) → t ≡ is_eq r → is_eq (by_names q p) ≡ (under p q && under q p) → is_eq (ordering_then r (by_names q p)) ≡ ((is_eq r && under p q) && (t && under q p))
  go Less t e h = refl
  go Equal true e h = h
  go Equal false e h = absurd (true≢false (sym e))
  go Greater t e h = refl

pub same_swap : (p q : Names) → same p q ≡ same q p
same_swap p q = ap is_eq ((lists_total (lists_total nat_cmp_total)).antisymm q p) ∙ is_eq_reversed (by_names p q)

-- what does not lie at or above a path, or not at or below it, is not that path
pub not_over : (q p : Names) → under q p ≡ false → same q p ≡ false
not_over q p h = same-under q p ∙ and_left (under q p) (under p q) h

pub not_at : (q p : Names) → under p q ≡ false → same q p ≡ false
not_at q p h = same-under q p ∙ and_right (under q p) (under p q) h

-- what lies above a path and is not that path does not lie below it, nor the other way round
pub not_below : (q p : Names) → same q p ≡ false → under q p ≡ true → under p q ≡ false
not_below q p n u = false_from_ne_true (under p q) (λ w. both_ways (same q p) n (same-under q p ∙ and_from (under q p) (under p q) u w))

pub not_above : (q p : Names) → same q p ≡ false → under p q ≡ true → under q p ≡ false
not_above q p n u = not_below p q (same_swap p q ∙ n) u

among-map : (n k : List ℕ) (ks : List Names) (q : Names) → among (map (λ r. n ∷ r) ks) (k ∷ q) ≡ (eq n k && among ks q)
among-map n k [] q = elim (eq n k) as (λ t. false ≡ (t && false)) [ true ↦ refl | false ↦ refl ]
among-map n k (r ∷ ks) q = go (by_bytes n k) (among-map n k ks q) where
  go : (o : Ordering) → among (map (λ r. n ∷ r) ks) (k ∷ q) ≡ (is_eq o && among ks q) → (is_eq (ordering_then o (by_names r q)) || among (map (λ r. n ∷ r) ks) (k ∷ q)) ≡ (is_eq o && (is_eq (by_names r q) || among ks q))
  go Less h = h
  go Equal h = ap (λ t. is_eq (by_names r q) || t) h
  go Greater h = h

-- the prefixes of a path are what it lies at or below
pub among-prefixes : (p q : Names) → among (prefixes p) q ≡ under q p
among-prefixes [] [] = refl
among-prefixes [] (k ∷ q) = refl
among-prefixes (n ∷ p) [] = refl
among-prefixes (n ∷ p) (k ∷ q) = among-map n k (prefixes p) q ∙ ap (λ t. eq n k && t) (among-prefixes p q)

under_parent : (n : List ℕ) (p : Names) → under (parent (n ∷ p)) (n ∷ p) ≡ true
under_parent n p = ap (under (parent (n ∷ p))) (as_child n p) ∙ under_goes (parent (n ∷ p)) _

pub parent_above : (p : Names) → under (parent p) p ≡ true
parent_above [] = refl
parent_above (n ∷ p) = under_parent n p

-- what lies strictly below a path lies at or below a child of it, and its parent lies at or below the path
pub strictly : (p q : Names) → under p q ≡ true → under q p ≡ false → (n : List ℕ) × (rest : Names) × (q ≡ p ++ n ∷ rest)
strictly p q u w = let d = under_rest p q u in go d.0 d.1 where
  go : (rest : Names) → q ≡ p ++ rest → (n : List ℕ) × (more : Names) × (q ≡ p ++ n ∷ more)
  go [] e = absurd (true≢false (sym (subst (λ z. under z p ≡ true) (sym (e ∙ nil p)) (under-itself p)) ∙ w)) where
    nil : (p : Names) → p ++ [] ≡ p
    nil [] = refl
    nil (n ∷ p) = ap (λ l. n ∷ l) (nil p)
  go (n ∷ rest) e = (n, rest, e)

parent_goes : (q : Names) (n : List ℕ) (rest : Names) → under q (parent (q ++ n ∷ rest)) ≡ true
parent_goes [] n rest = refl
parent_goes (k ∷ []) n rest = under_goes (k ∷ []) (parent (n ∷ rest))
parent_goes (k ∷ j ∷ q) n rest = and_from (eq k k) (under (j ∷ q) (parent ((j ∷ q) ++ n ∷ rest))) (eq-itself k) (parent_goes (j ∷ q) n rest)

-- what lies strictly above a path lies at or above its parent
pub above_parent : (q p : Names) → under q p ≡ true → under p q ≡ false → under q (parent p) ≡ true
above_parent q p u w = let d = strictly q p u w in ap (λ z. under q (parent z)) d.2 ∙ parent_goes q d.0 d.1

-- two prefixes of one path
pub comparable : (a b p : Names) → under a p ≡ true → under b p ≡ true → (under a b ≡ true) ⊎ (under b a ≡ true)
comparable [] b p u w = inl refl
comparable (n ∷ a) [] p u w = inr refl
comparable (n ∷ a) (k ∷ b) [] u w = absurd (true≢false (sym u))
comparable (n ∷ a) (k ∷ b) (j ∷ p) u w =
    let s = and_parts (eq j n) (under a p) u in
    let t = and_parts (eq j k) (under b p) w in
    let e = sym (eq-exact j k t.0) ∙ eq-exact j n s.0 in
    ⊎_elim
    (λ h. inl (and_from (eq k n) (under a b) (ap (λ z. eq z n) e ∙ eq-itself n) h))
    (λ h. inr (and_from (eq n k) (under b a) (ap (λ z. eq n z) e ∙ eq-itself n) h))
    (comparable a b p s.1 t.1)
