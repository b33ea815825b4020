-- The least name behind a name, as the children of a path have it. Assumes nothing.
use Rattle.std.proofs.Common.{◌≡◌, ℕ, ◌+◌, ◌<◌, ◌≤◌, Bool, true, false, cond, ◌⊎◌, List, [], ◌∷◌, ◌++◌, is_some, Some, None, Option, Ordering, Less, Equal, Greater, sym, refl, ap, ◌∙◌, subst, inl, inr, ⊎_elim, arith}
use Rattle.std.proofs.lemmas.Bool.{true≢false, both_ways, and_parts, and_from, and_right, false_from_ne_true}
use Rattle.std.specs.Cmp.{nat_cmp_total}
use Rattle.std.specs.Cmp.Lexicographic.{lists_total}
use Rattle.std.specs.Option.{option_map}
use Rattle.std.specs.Ordering.{is_lt, is_eq, ordering_reverse, ordering_then}
use Rattle.paths.specs.Names.{parent, last_name}
use Rattle.paths.specs.Order.{by_bytes, by_names}
use Rattle.paths.proofs.Laws.{itself, bytes-exact}
use Rattle.rows.specs.Maps.{Names, before, first, has, ascending, is_child, child_path}
use Rattle.rows.proofs.Orders.{is-less, same-is, is_same, shared, not_before_self, not_both, parent-child, last_child, as_child, no_name_least}
use Rattle.rows.proofs.Firsts.{In, first_some, first-none, first-least, there, at-holds, in-there}

-- ---- names

abbrev pub less : List ℕ → List ℕ → Bool
less a b = is_lt (by_bytes a b)

pub less-trans : (a b c : List ℕ) → less a b ≡ true → less b c ≡ true → less a c ≡ true
less-trans a b c h g = ap is_lt ((lists_total nat_cmp_total).trans a b c (is-less _ h) (is-less _ g))

not-less_self : (a : List ℕ) → less a a ≡ false
not-less_self a = ap is_lt (itself (lists_total nat_cmp_total) a)

told_names : (a b : List ℕ) → (less a b ≡ true) ⊎ ((a ≡ b) ⊎ (less b a ≡ true))
told_names a b = go (by_bytes a b) refl where
  go : (k : Ordering) → by_bytes a b ≡ k → (less a b ≡ true) ⊎ ((a ≡ b) ⊎ (less b a ≡ true))
  go Less e = inl (ap is_lt e)
  go Equal e = inr (inl (bytes-exact a b e))
  go Greater e = inr (inr (ap is_lt ((lists_total nat_cmp_total).antisymm b a ∙ ap ordering_reverse e)))

-- the path of a child
abbrev pub child : Names → List ℕ → Names
child p n = p ++ n ∷ []

last_order : (k : Ordering) → ordering_then k Equal ≡ k
last_order Less = refl
last_order Equal = refl
last_order Greater = refl

-- children of one path rise as their names do
pub child-order : (p : Names) (a b : List ℕ) → before (child p a) (child p b) ≡ less a b
child-order p a b = ap is_lt (shared p (a ∷ []) (b ∷ []) ∙ last_order (by_bytes a b))

-- ---- the least name

-- the least name greater than a that passes, if there is one
abbrev pub Least : (List ℕ → Bool) → List ℕ → Option (List ℕ) → Type 0
Least h a None = (k : List ℕ) → less a k ≡ true → h k ≡ false
Least h a (Some n) = (h n ≡ true) × (less a n ≡ true) × ((k : List ℕ) → less a k ≡ true → less k n ≡ true → h k ≡ false)

least_unique : (h : List ℕ → Bool) (a : List ℕ) (o w : Option (List ℕ)) → Least h a o → Least h a w → o ≡ w
least_unique h a None None f g = refl
least_unique h a None (Some j) f g = absurd (both_ways (h j) (f j g.1) g.0)
least_unique h a (Some n) None f g = absurd (both_ways (h n) (g n f.1) f.0)
least_unique h a (Some n) (Some j) f g =
    ⊎_elim
    (λ l. absurd (both_ways (h n) (g.2 n f.1 l) f.0))
    (λ d. ⊎_elim (λ e. ap Some e) (λ l. absurd (both_ways (h j) (f.2 j g.1 l) g.0)) d)
    (told_names n j)

-- tests that say the same of each name that counts
pub least_alike : (h g : List ℕ → Bool) (a : List ℕ) (o : Option (List ℕ)) → ((k : List ℕ) → less a k ≡ true → g k ≡ h k) → Least h a o → Least g a o
least_alike h g a None s f = λ k l. s k l ∙ f k l
least_alike h g a (Some n) s f = (s n f.1 ∙ f.0, f.1, λ k l u. s k l ∙ f.2 k l u)

-- a name that passes is not less than the least
pub least_bound : (h : List ℕ → Bool) (a n k : List ℕ) → Least h a (Some n) → less a k ≡ true → h k ≡ true → (n ≡ k) ⊎ (less n k ≡ true)
least_bound h a n k f l t =
    ⊎_elim
    (λ u. absurd (both_ways (h k) (f.2 k l u) t))
    (λ d. ⊎_elim (λ e. inl (sym e)) inr d)
    (told_names k n)

-- no name up to n passes: the search can begin behind n
pub least-from : (h : List ℕ → Bool) (a n : List ℕ) (o : Option (List ℕ)) → less a n ≡ true → h n ≡ false → ((k : List ℕ) → less a k ≡ true → less k n ≡ true → h k ≡ false) → Least h n o → Least h a o
least-from h a n None l z low f = λ k u. ⊎_elim (low k u) (λ d. ⊎_elim (λ e. ap h e ∙ z) (f k) d) (told_names k n)
least-from h a n (Some j) l z low f =
    (f.0, less-trans a n j l f.1, λ k u v. ⊎_elim (low k u) (λ d. ⊎_elim (λ e. ap h e ∙ z) (λ w. f.2 k w v) d) (told_names k n))

-- ---- the children of a path

module _ {V : Type 0} where
  pub is_child_of : (p : Names) (a : List ℕ) (x : Names × V) → is_child p a x ≡ true → (x.0 ≡ child p (last_name x.0)) × (less a (last_name x.0) ≡ true)
  is_child_of p a x t = (go x.0 (same-is (parent x.0) p d.0) d.1, d.1) where
    d : (is_eq (by_names (parent x.0) p) ≡ true) × (less a (last_name x.0) ≡ true)
    d = and_parts (is_eq (by_names (parent x.0) p)) (less a (last_name x.0)) t

    go : (z : Names) → parent z ≡ p → less a (last_name z) ≡ true → z ≡ child p (last_name z)
    go [] e l = absurd (no_name_least a l)
    go (n ∷ z) e l = as_child n z ∙ ap (λ y. y ++ last_name (n ∷ z) ∷ []) e

  pub child_passes : (p : Names) (a k : List ℕ) (v : V) → less a k ≡ true → is_child p a (child p k, v) ≡ true
  child_passes p a k v l =
      and_from (is_eq (by_names (parent (child p k)) p)) (less a (last_name (child p k))) (is_same (parent (child p k)) p (parent-child p k)) (ap (less a) (last_child p k) ∙ l)

  -- p has a child of this name
  abbrev pub named : List (Names × V) → Names → List ℕ → Bool
  named rs p k = has rs (child p k)

  module _ (rs : List (Names × V)) (up : ascending rs ≡ true) (p : Names) where
    pub least-child : (a : List ℕ) → (o : Option (List ℕ)) × (child_path rs p a ≡ option_map (child p) o) × Least (named rs p) a o
    least-child a = go (first (is_child p a) rs) refl where
      go : (f : Option (Names × V)) → first (is_child p a) rs ≡ f → (o : Option (List ℕ)) × (child_path rs p a ≡ option_map (child p) o) × Least (named rs p) a o
      go None e = (None, ap (option_map (λ r. r.0)) e, none) where
        none : (k : List ℕ) → less a k ≡ true → named rs p k ≡ false
        none k l = false_from_ne_true (named rs p k) (λ t. let d = there rs (child p k) t in both_ways (is_child p a (child p k, d.0)) (first-none (is_child p a) rs e (child p k, d.0) (at-holds rs (child p k) d.0 d.1)) (child_passes p a k d.0 l))
      go (Some r) e = (Some n, ap (option_map (λ r. r.0)) e ∙ ap Some c.0, (subst (λ z. has rs z ≡ true) c.0 (in-there rs up r s.0), c.1, low)) where
        n : List ℕ
        n = last_name r.0

        s : In rs r × (is_child p a r ≡ true)
        s = first_some (is_child p a) rs r e

        c : (r.0 ≡ child p n) × (less a n ≡ true)
        c = is_child_of p a r s.1

        low : (k : List ℕ) → less a k ≡ true → less k n ≡ true → named rs p k ≡ false
        low k l u = false_from_ne_true (named rs p k) no where
          near : before (child p k) r.0 ≡ true
          near = ap (before (child p k)) c.0 ∙ child-order p k n ∙ u

          no : named rs p k ≡ true → ⊥
          no t =
              let d = there rs (child p k) t in
              ⊎_elim
              (λ q. not_before_self (child p k) (ap (λ z. before (child p k) z.0) q ∙ near))
              (λ q. not_both (child p k) r.0 near q)
              (first-least (is_child p a) rs up r (child p k, d.0) e (at-holds rs (child p k) d.0 d.1) (child_passes p a k d.0 l))

    -- so the least name says what the path of the child is
    pub child-least : (a : List ℕ) (o : Option (List ℕ)) → Least (named rs p) a o → child_path rs p a ≡ option_map (child p) o
    child-least a o f = let d = least-child a in d.1 ∙ ap (option_map (child p)) (least_unique (named rs p) a d.0 o d.2 f)

  -- how many children of p have a name greater than a
  abbrev pub ahead : List (Names × V) → Names → List ℕ → ℕ
  ahead [] p a = 0
  ahead (r ∷ rs) p a = cond (is_child p a r) 1 0 + ahead rs p a

  module _ (p : Names) (a n : List ℕ) (l : less a n ≡ true) where
    still : (x : Names × V) → is_child p n x ≡ true → is_child p a x ≡ true
    still x t =
        let d = and_parts (is_eq (by_names (parent x.0) p)) (less n (last_name x.0)) t in
        and_from (is_eq (by_names (parent x.0) p)) (less a (last_name x.0)) d.0 (less-trans a n (last_name x.0) l d.1)

    no_more : (rs : List (Names × V)) → ahead rs p n ≤ ahead rs p a
    no_more [] = omega arith
    no_more (x ∷ rs) = go (is_child p n x) (is_child p a x) (still x) (no_more rs) where
      go : (t u : Bool) → (t ≡ true → u ≡ true) → ahead rs p n ≤ ahead rs p a → cond t 1 0 + ahead rs p n ≤ cond u 1 0 + ahead rs p a
      go true true s h = omega arith
      go true false s h = absurd (true≢false (sym (s refl)))
      go false true s h = omega arith
      go false false s h = omega arith

    one_fewer : (rs : List (Names × V)) (x : Names × V) → In rs x → is_child p n x ≡ false → is_child p a x ≡ true → ahead rs p n < ahead rs p a
    one_fewer [] x i f t = absurd i
    one_fewer (y ∷ rs) x i f t = ⊎_elim here (λ j. there_on (is_child p n y) (is_child p a y) (still y) (one_fewer rs x j f t)) i where
      here : x ≡ y → cond (is_child p n y) 1 0 + ahead rs p n < cond (is_child p a y) 1 0 + ahead rs p a
      here e = go (is_child p n y) (is_child p a y) (sym (ap (is_child p n) e) ∙ f) (sym (ap (is_child p a) e) ∙ t) (no_more rs) where
        go : (s u : Bool) → s ≡ false → u ≡ true → ahead rs p n ≤ ahead rs p a → cond s 1 0 + ahead rs p n < cond u 1 0 + ahead rs p a
        go true u g h k = absurd (true≢false g)
        go false true g h k = omega arith
        go false false g h k = absurd (true≢false (sym h))

      there_on : (s u : Bool) → (s ≡ true → u ≡ true) → ahead rs p n < ahead rs p a → cond s 1 0 + ahead rs p n < cond u 1 0 + ahead rs p a
      there_on true true g h = omega arith
      there_on true false g h = absurd (true≢false (sym (g refl)))
      there_on false true g h = omega arith
      there_on false false g h = omega arith

  -- behind the least child there are fewer
  pub fewer_ahead : (rs : List (Names × V)) (p : Names) (a : List ℕ) (r : Names) → child_path rs p a ≡ Some r → ahead rs p (last_name r) < ahead rs p a
  fewer_ahead rs p a r h = go (first (is_child p a) rs) refl h where
    go : (f : Option (Names × V)) → first (is_child p a) rs ≡ f → option_map (λ x. x.0) f ≡ Some r → ahead rs p (last_name r) < ahead rs p a
    go None e g = absurd (true≢false (sym (ap is_some g)))
    go (Some x) e g =
        let d = first_some (is_child p a) rs x e in
        let c = is_child_of p a x d.1 in
        let same : x.0 ≡ r = cc in
        let l : less a (last_name r) ≡ true = subst (λ z. less a (last_name z) ≡ true) same c.1 in
        let k : less (last_name r) (last_name x.0) ≡ false = ap (λ z. less (last_name r) (last_name z)) same ∙ not-less_self (last_name r) in
        one_fewer p a (last_name r) l rs x d.0 (and_right (is_eq (by_names (parent x.0) p)) (less (last_name r) (last_name x.0)) k) d.1
