-- The order of names, as tests. Assumes nothing.
pub use Rattle.paths.proofs.Steps.{last_child}
use Rattle.std.proofs.Common.{◌≡◌, ℕ, ◌<◌, arith, length, true, List, [], ◌∷◌, ◌++◌, Ordering, Less, Equal, Greater, sym, refl, ap, ◌∙◌, subst}
use Rattle.std.proofs.lemmas.Bool.{true≢false}
use Rattle.std.specs.Cmp.{nat_cmp_total}
use Rattle.std.specs.Cmp.Lexicographic.{lists_total}
use Rattle.std.specs.Ordering.{is_lt, is_eq, is_le, ordering_then}
use Rattle.paths.specs.Names.{parent, last_name}
use Rattle.paths.specs.Order.{by_bytes, by_names}
use Rattle.paths.proofs.Laws.{itself, names-exact}
use Rattle.rows.specs.Maps.{before}

pub is-less : (k : Ordering) → is_lt k ≡ true → k ≡ Less
is-less Less h = refl
is-less Equal h = absurd (true≢false (sym h))
is-less Greater h = absurd (true≢false (sym h))

pub is-equal : (k : Ordering) → is_eq k ≡ true → k ≡ Equal
is-equal Less h = absurd (true≢false (sym h))
is-equal Equal h = refl
is-equal Greater h = absurd (true≢false (sym h))

lt-le : (k : Ordering) → is_lt k ≡ true → is_le k ≡ true
lt-le Less h = refl
lt-le Equal h = refl
lt-le Greater h = h

pub same-is : (a b : List (List ℕ)) → is_eq (by_names a b) ≡ true → a ≡ b
same-is a b h = names-exact a b (is-equal _ h)

pub is_same : (a b : List (List ℕ)) → a ≡ b → is_eq (by_names a b) ≡ true
is_same a b e = ap (λ x. is_eq (by_names x b)) e ∙ ap is_eq (itself (lists_total (lists_total nat_cmp_total)) b)

pub before-le : (a b : List (List ℕ)) → before a b ≡ true → is_le (by_names a b) ≡ true
before-le a b h = lt-le _ h

pub before-trans : (a b c : List (List ℕ)) → before a b ≡ true → before b c ≡ true → before a c ≡ true
before-trans a b c h g = ap is_lt ((lists_total (lists_total nat_cmp_total)).trans a b c (is-less _ h) (is-less _ g))

pub not_before_self : (a : List (List ℕ)) → before a a ≡ true → ⊥
not_before_self a h = true≢false (sym h ∙ ap is_lt (itself (lists_total (lists_total nat_cmp_total)) a))

pub not_before-same : (a b : List (List ℕ)) → a ≡ b → before a b ≡ true → ⊥
not_before-same a b e h = not_before_self b (subst (λ x. before x b ≡ true) e h)

pub not_both : (a b : List (List ℕ)) → before a b ≡ true → before b a ≡ true → ⊥
not_both a b h g = not_before_self a (before-trans a b a h g)

by_le : (k : Ordering) (P : Type 0) → is_le k ≡ true → (k ≡ Equal → P) → (is_lt k ≡ true → P) → P
by_le Less P h e l = l refl
by_le Equal P h e l = e refl
by_le Greater P h e l = absurd (true≢false (sym h))

-- a ≤ b < c
pub le-before : (a b c : List (List ℕ)) → is_le (by_names a b) ≡ true → before b c ≡ true → before a c ≡ true
le-before a b c h g =
    by_le (by_names a b) (before a c ≡ true) h (λ e. subst (λ x. before x c ≡ true) (sym (names-exact a b e)) g) (λ l. before-trans a b c l g)

-- what two paths share in front does not count
pub shared : (p a b : List (List ℕ)) → by_names (p ++ a) (p ++ b) ≡ by_names a b
shared [] a b = refl
shared (n ∷ p) a b = ap (λ k. ordering_then k (by_names (p ++ a) (p ++ b))) (itself (lists_total nat_cmp_total) n) ∙ shared p a b

pub parent-child : (p : List (List ℕ)) (n : List ℕ) → parent (p ++ n ∷ []) ≡ p
parent-child [] n = refl
parent-child (m ∷ []) n = refl
parent-child (m ∷ o ∷ p) n = ap (λ l. m ∷ l) (parent-child (o ∷ p) n)

-- a path that is not the root is a child of its parent
pub as_child : (m : List ℕ) (p : List (List ℕ)) → m ∷ p ≡ parent (m ∷ p) ++ last_name (m ∷ p) ∷ []
as_child m [] = refl
as_child m (o ∷ p) = ap (λ l. m ∷ l) (as_child o p)

-- a name that is not empty comes behind the empty one
pub some_name : (n : List ℕ) → 0 < length n → is_lt (by_bytes [] n) ≡ true
some_name [] h = absurd (omega arith)
some_name (x ∷ n) h = refl

pub no_name_least : (a : List ℕ) → is_lt (by_bytes a []) ≡ true → ⊥
no_name_least [] h = true≢false (sym h)
no_name_least (x ∷ a) h = true≢false (sym h)
