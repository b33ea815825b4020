-- How many paths lists of paths have. Assumes nothing.
use Rattle.std.proofs.Common.{◌≡◌, ℕ, suc, ◌+◌, ◌≤◌, Bool, true, false, cond, ◌||◌, List, [], ◌∷◌, map, length, is_some, Some, None, Option, Ordering, Less, Equal, Greater, sym, refl, ap, ◌∙◌, ⊎_elim, arith}
use Rattle.std.proofs.lemmas.Bool.{true≢false, cond-true, cond-false, or_left, or_right, or_cases, or_from}
use Rattle.std.specs.Cmp.{nat_cmp_total}
use Rattle.std.specs.Ordering.{is_eq, ordering_reverse, ordering_then}
use Rattle.paths.specs.Names.{prefixes}
use Rattle.paths.specs.Order.{by_names}
use Rattle.paths.proofs.Laws.{itself, names-exact}
use Rattle.rows.specs.Maps.{Names, at, has, ascending}
use Rattle.rows.specs.Builds.{same, among, put_by, add, union, keys, row, build}
use Rattle.rows.proofs.Built.{Above, Ascends, flip, apart, above_chain, same-itself, same_path, among-union, among-has, ascends-union, ascends-keys, at-built, keys-build, ascending-build, same_rows}
use Rattle.marks.specs.Plain.{missing}
use Rattle.std.specs.Cmp.Lexicographic.{lists_total}

-- ---- lists of paths that rise

-- what comes before all of a list is not among them
pub above-not : (j : Names) (ks : List Names) → Above j ks → among ks j ≡ false
above-not j [] h = refl
above-not j (k ∷ ks) h = or_from (same j k) (among ks j) (apart j k h.0) (above-not j ks h.1)

above-among : (j : Names) (ks : List Names) → Above j ks → (q : Names) → among ks q ≡ true → by_names j q ≡ Less
above-among j [] h q i = absurd (true≢false (sym i))
above-among j (k ∷ ks) h q i =
    ⊎_elim (λ s. ap (by_names j) (same_path q k s) ∙ h.0) (λ t. above-among j ks h.1 q t) (or_cases (same q k) (among ks q) i)

above_map : (n : List ℕ) (j : Names) (ks : List Names) → Above j ks → Above (n ∷ j) (map (λ r. n ∷ r) ks)
above_map n j [] h = tt
above_map n j (k ∷ ks) h = (ap (λ o. ordering_then o (by_names j k)) (itself (lists_total nat_cmp_total) n) ∙ h.0, above_map n j ks h.1)

ascends-map : (n : List ℕ) (ks : List Names) → Ascends ks → Ascends (map (λ r. n ∷ r) ks)
ascends-map n [] h = tt
ascends-map n (k ∷ ks) h = (above_map n k ks h.0, ascends-map n ks h.1)

root_above : (n : List ℕ) (ks : List Names) → Above [] (map (λ r. n ∷ r) ks)
root_above n [] = tt
root_above n (k ∷ ks) = (refl, root_above n ks)

pub ascends-prefixes : (p : Names) → Ascends (prefixes p)
ascends-prefixes [] = (tt, tt)
ascends-prefixes (n ∷ p) = (root_above n (prefixes p), ascends-map n (prefixes p) (ascends-prefixes p))

-- ---- their lengths

length-add : (ks : List Names) (k : Names) → Ascends ks → length (add ks k) ≡ cond (among ks k) (length ks) (suc (length ks))
length-add [] k h = refl
length-add (x ∷ xs) k h = go (by_names k x) refl (length-add xs k h.1) where
  go : (r : Ordering) → by_names k x ≡ r → length (add xs k) ≡ cond (among xs k) (length xs) (suc (length xs)) → length (put_by r k x xs (add xs k)) ≡ cond (same k x || among xs k) (suc (length xs)) (suc (suc (length xs)))
  go Less e t = sym (cond-false (same k x || among xs k) (suc (length xs)) (suc (suc (length xs))) (above-not k (x ∷ xs) (e, above_chain k x xs e h.0)))
  go Equal e t = sym (cond-true (same k x || among xs k) (suc (length xs)) (suc (suc (length xs))) (or_left (same k x) (among xs k) (ap is_eq (flip x k ∙ ap ordering_reverse e))))
  go Greater e t = ap suc t ∙ step (among xs k) ∙ ap (λ b. cond (b || among xs k) (suc (length xs)) (suc (suc (length xs)))) (sym (ap is_eq (flip x k ∙ ap ordering_reverse e))) where
    step : (b : Bool) → suc (cond b (length xs) (suc (length xs))) ≡ cond b (suc (length xs)) (suc (suc (length xs)))
    step true = refl
    step false = refl

-- the paths of one list, and those of the other that it lacks
pub length_union : (ks js : List Names) → Ascends ks → Ascends js → length (union ks js) ≡ length js + missing js ks
length_union [] js a b = omega arith
length_union (k ∷ ks) js a b =
    length-add (union ks js) k (ascends-union ks js b)
    ∙ ap (λ t. cond t (length (union ks js)) (suc (length (union ks js)))) (among-union ks js k ∙ ap (λ t. t || among js k) (above-not k ks a.0))
    ∙ go (among js k) (length_union ks js a.1 b) where
      go : (t : Bool) → length (union ks js) ≡ length js + missing js ks → cond t (length (union ks js)) (suc (length (union ks js))) ≡ length js + cond t (missing js ks) (suc (missing js ks))
      go true h = h
      go false h = omega arith

-- a list that rises is at most as long as one that has all its paths
pub length-within : (js ks : List Names) → Ascends js → Ascends ks → ((q : Names) → among ks q ≡ true → among js q ≡ true) → length ks ≤ length js
length-within js [] a b h = omega arith
length-within [] (k ∷ ks) a b h = absurd (true≢false (sym (h k (or_left (same k k) (among ks k) (same-itself k)))))
length-within (j ∷ js) (k ∷ ks) a b h = go (by_names k j) refl (length-within js (k ∷ ks) a.1 b) (length-within js ks a.1 b.1) where
  first : among (j ∷ js) k ≡ true
  first = h k (or_left (same k k) (among ks k) (same-itself k))

  -- a path of the one list that is not the head of the other
  past : (q : Names) → among (k ∷ ks) q ≡ true → by_names j q ≡ Less → among js q ≡ true
  past q i l = ⊎_elim (λ s. absurd (true≢false (sym s ∙ ap is_eq l))) (λ t. t) (or_cases (same q j) (among js q) (h q i))

  go : (r : Ordering) → by_names k j ≡ r → (((q : Names) → among (k ∷ ks) q ≡ true → among js q ≡ true) → suc (length ks) ≤ length js) → (((q : Names) → among ks q ≡ true → among js q ≡ true) → length ks ≤ length js) → suc (length ks) ≤ suc (length js)
  go Less e f g = absurd (true≢false (sym first ∙ above-not k (j ∷ js) (e, above_chain k j js e a.0)))
  go Equal e f g =
      let z = g (λ q i. past q (or_right (same q k) (among ks q) i) (ap (λ x. by_names x q) (sym (names-exact k j e)) ∙ above-among k ks b.0 q i)) in
      omega arith
  go Greater e f g =
      let l = flip j k ∙ ap ordering_reverse e in
      let z = f (λ q i. past q i (above-among j (k ∷ ks) (l, above_chain j k ks l b.0) q i)) in
      omega arith

-- ---- what a list lacks

pub missing-none : (js ks : List Names) → ((q : Names) → among ks q ≡ true → among js q ≡ true) → missing js ks ≡ 0
missing-none js [] h = refl
missing-none js (k ∷ ks) h =
    cond-true (among js k) (missing js ks) (suc (missing js ks)) (h k (or_left (same k k) (among ks k) (same-itself k)))
    ∙ missing-none js ks (λ q i. h q (or_right (same q k) (among ks q) i))

pub missing_most : (js ks : List Names) → missing js ks ≤ length ks
missing_most js [] = omega arith
missing_most js (k ∷ ks) = go (among js k) (missing_most js ks) where
  go : (t : Bool) → missing js ks ≤ length ks → cond t (missing js ks) (suc (missing js ks)) ≤ suc (length ks)
  go true h = omega arith
  go false h = omega arith

-- ---- lists with the same paths

module _ (ks : List Names) where
  abbrev told_by : Names → Option (Unit {0})
  told_by q = cond (among ks q) (Some tt) None

  rows_told : keys (build told_by ks) ≡ ks
  rows_told = keys-build told_by ks (λ q i. ap is_some (cond-true (among ks q) (Some tt) None i))

  at_told : (q : Names) → at (build told_by ks) q ≡ told_by q
  at_told q = at-built told_by ks q (λ n. cond-false (among ks q) (Some tt) None n)

pub same_paths : (ks js : List Names) → Ascends ks → Ascends js → ((q : Names) → among ks q ≡ among js q) → ks ≡ js
same_paths ks js a b h =
    sym (rows_told ks)
    ∙ ap keys (same_rows (build (told_by ks) ks) (build (told_by js) js) (ascending-build (told_by ks) ks a) (ascending-build (told_by js) js b) (λ q. at_told ks q ∙ ap (λ t. cond t (Some tt) None) (h q) ∙ sym (at_told js q)))
    ∙ rows_told js

-- ---- rows

module _ {V : Type 0} where
  pub length-keys : (rs : List (Names × V)) → length (keys rs) ≡ length rs
  length-keys [] = refl
  length-keys (r ∷ rs) = ap suc (length-keys rs)

  pub length-build : (f : Names → Option V) (ks : List Names) → length (build f ks) ≤ length ks
  length-build f [] = omega arith
  length-build f (k ∷ ks) = go (f k) (length-build f ks) where
    go : (w : Option V) → length (build f ks) ≤ length ks → length (row k w (build f ks)) ≤ suc (length ks)
    go None h = omega arith
    go (Some v) h = omega arith

-- rows that rise are at most as many as others that have all their paths
pub length_has : {V W : Type 0} (m : List (Names × V)) (n : List (Names × W)) → ascending m ≡ true → ascending n ≡ true → ((q : Names) → has n q ≡ true → has m q ≡ true) → length n ≤ length m
length_has m n a b h =
    let within = length-within (keys m) (keys n) (ascends-keys m a) (ascends-keys n b) (λ q i. sym (among-has m q) ∙ h q (among-has n q ∙ i)) in
    omega (arith, within, length-keys m, length-keys n)
