-- The laws of the order of paths. Assumes nothing.
use Rattle.std.proofs.Common.{◌≡◌, ℕ, ◌<◌, Bool, true, false, cond, eqb, ltb, List, [], ◌∷◌, ◌++◌, Ordering, Less, Equal, Greater, sym, refl, ap, ◌∙◌, arith}
use Rattle.std.proofs.lemmas.Bool.{true≢false, lt-ltb, le-ltb, ne_eqb, cond-true, cond-false}
use Rattle.std.proofs.lemmas.Cmp.{tied_itself}
use Rattle.std.proofs.lemmas.Map.Lookups.{exact_bytes}
use Rattle.std.specs.Cmp.{IsTotalOrder, nat_cmp_total}
use Rattle.std.specs.Cmp.Lexicographic.{slice_cmp, lists_total}
use Rattle.std.specs.Ordering.{is_lt, is_le, is_gt, ordering_reverse, ordering_then, nat_cmp}
use Rattle.paths.specs.Pieces.{front, later, pieces}
use Rattle.paths.specs.Names.{split, Under}
use Rattle.paths.specs.Order.{by_bytes, by_names, by_weight}

then_assoc : (a b c : Ordering) → ordering_then (ordering_then a b) c ≡ ordering_then a (ordering_then b c)
then_assoc Less b c = refl
then_assoc Equal b c = refl
then_assoc Greater b c = refl

-- ---- the order of names is plain byte order, with `/` read as 0

abbrev pub NoZero : List ℕ → Type 0
NoZero [] = Unit {0}
NoZero (b ∷ bs) = (0 < b) × NoZero bs

module _ (x y : ℕ) (xs ys : List ℕ) (p : 0 < x) (q : 0 < y) (more : by_names (pieces 47 xs) (pieces 47 ys) ≡ by_weight xs ys) where
  step : (t u : Bool) → ordering_then (by_bytes (cond t [] (x ∷ front 47 xs)) (cond u [] (y ∷ front 47 ys))) (by_names (cond t (pieces 47 xs) (later 47 xs)) (cond u (pieces 47 ys) (later 47 ys))) ≡ ordering_then (nat_cmp (cond t 0 x) (cond u 0 y)) (by_weight xs ys)
  step true true = more
  step true false = ap (λ k. ordering_then k (by_weight xs ys)) (sym (cond-true (ltb 0 y) _ _ (lt-ltb 0 y q)))
  step false true =
      ap (λ k. ordering_then k (by_weight xs ys)) (sym (cond-false (ltb x 0) _ _ (le-ltb x 0 (omega arith)) ∙ cond-false (eqb x 0) Equal Greater (ne_eqb x 0 (omega arith))))
  step false false = then_assoc (nat_cmp x y) _ _ ∙ ap (λ k. ordering_then (nat_cmp x y) k) more

pieces-order : (a b : List ℕ) → NoZero a → NoZero b → by_names (pieces 47 a) (pieces 47 b) ≡ by_weight a b
pieces-order [] [] p q = refl
pieces-order [] (y ∷ ys) p q =
    elim (eqb y 47) as (λ u. ordering_then (by_bytes [] (cond u [] (y ∷ front 47 ys))) (by_names [] (cond u (pieces 47 ys) (later 47 ys))) ≡ Less) [ true ↦ refl | false ↦ refl ]
pieces-order (x ∷ xs) [] p q =
    elim (eqb x 47) as (λ u. ordering_then (by_bytes (cond u [] (x ∷ front 47 xs)) []) (by_names (cond u (pieces 47 xs) (later 47 xs)) []) ≡ Greater) [ true ↦ refl | false ↦ refl ]
pieces-order (x ∷ xs) (y ∷ ys) p q =
    step x y xs ys p.0 q.0 (pieces-order xs ys p.1 q.1) (eqb x 47) (eqb y 47)

pub split-order : (a b : List ℕ) → NoZero a → NoZero b → by_names (split a) (split b) ≡ by_weight a b
split-order [] [] p q = refl
split-order [] (y ∷ ys) p q = refl
split-order (x ∷ xs) [] p q = refl
split-order (x ∷ xs) (y ∷ ys) p q = pieces-order (x ∷ xs) (y ∷ ys) p q

-- ---- a total order

pub total : IsTotalOrder by_names
total = lists_total (lists_total nat_cmp_total)

module _ {K : Type 0} {R : K → K → Ordering} (o : IsTotalOrder R) where
  pub itself : (x : K) → R x x ≡ Equal
  itself x = tied_itself o x

  module _ (exact : (x y : K) → R x y ≡ Equal → x ≡ y) where
    lex_exact : (xs ys : List K) → slice_cmp R xs ys ≡ Equal → xs ≡ ys
    lex_exact [] [] h = refl
    lex_exact [] (y ∷ ys) h = absurd (true≢false (ap is_lt h))
    lex_exact (x ∷ xs) [] h = absurd (true≢false (ap is_gt h))
    lex_exact (x ∷ xs) (y ∷ ys) h = go (R x y) refl (lex_exact xs ys) h where
      go : (k : Ordering) → R x y ≡ k → (slice_cmp R xs ys ≡ Equal → xs ≡ ys) → ordering_then k (slice_cmp R xs ys) ≡ Equal → ◌≡◌ {A = List K} (x ∷ xs) (y ∷ ys)
      go Less e f g = absurd (true≢false (ap is_lt g))
      go Equal e f g = λ i. exact x y e i ∷ f g i
      go Greater e f g = absurd (true≢false (ap is_gt g))

    -- what begins with p is all that lies between p and what begins with p
    lex_between : (p q r rest : List K) → is_le (slice_cmp R p q) ≡ true → is_le (slice_cmp R q r) ≡ true → r ≡ p ++ rest → (more : List K) × (q ≡ p ++ more)
    lex_between [] q r rest h g e = (q, refl)
    lex_between (x ∷ p) [] r rest h g e = absurd (true≢false (sym h))
    lex_between (x ∷ p) (y ∷ q) [] rest h g e = absurd (true≢false (sym g))
    lex_between (x ∷ p) (y ∷ q) (z ∷ r) rest h g e = go (R x y) refl (lex_between p q r rest) h where
      same : z ≡ x
      same = cc

      tail : r ≡ p ++ rest
      tail = cc

      go : (k : Ordering) → R x y ≡ k → (is_le (slice_cmp R p q) ≡ true → is_le (slice_cmp R q r) ≡ true → r ≡ p ++ rest → (more : List K) × (q ≡ p ++ more)) → is_le (ordering_then k (slice_cmp R p q)) ≡ true → (more : List K) × ((y ∷ q) ≡ (x ∷ p) ++ more)
      go Less c f t =
          let above = ap (R y) same ∙ o.antisymm y x ∙ ap ordering_reverse c in
          absurd (true≢false (sym (sym (ap (λ k. is_le (ordering_then k (slice_cmp R q r))) above) ∙ g)))
      go Equal c f t =
          let level = ap (R y) same ∙ o.antisymm y x ∙ ap ordering_reverse c in
          let down = f t (sym (ap (λ k. is_le (ordering_then k (slice_cmp R q r))) level) ∙ g) tail in
          let first = sym (exact x y c) in
          (down.0, λ i. first i ∷ down.1 i)
      go Greater c f t = absurd (true≢false (sym t))

pub bytes-exact : (a b : List ℕ) → by_bytes a b ≡ Equal → a ≡ b
bytes-exact = exact_bytes

pub names-exact : (a b : List (List ℕ)) → by_names a b ≡ Equal → a ≡ b
names-exact = lex_exact (lists_total nat_cmp_total) bytes-exact

pub prefix_first : (p rest : List (List ℕ)) → is_le (by_names p (p ++ rest)) ≡ true
prefix_first [] [] = refl
prefix_first [] (n ∷ rest) = refl
prefix_first (n ∷ p) rest =
    ap (λ k. is_le (ordering_then k (by_names p (p ++ rest)))) (itself (lists_total nat_cmp_total) n) ∙ prefix_first p rest

pub between : (p q r : List (List ℕ)) → is_le (by_names p q) ≡ true → is_le (by_names q r) ≡ true → Under p r → Under p q
between p q r h g u = lex_between (lists_total nat_cmp_total) bytes-exact p q r u.0 h g u.1
