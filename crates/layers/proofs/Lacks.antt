-- What a chain over a path's prefixes says of it. Assumes nothing.
use Rattle.std.proofs.Common.{◌≡◌, ℕ, zero, suc, Bool, true, false, cond, not, ◌||◌, List, [], ◌∷◌, map, length, take, refl, ap, ◌∙◌}
use Rattle.std.specs.List.{list_any, filter}
use Rattle.paths.specs.Names.{prefixes}
use Rattle.rows.specs.Maps.{Names, has}
use Rattle.marks.specs.Marks.{MarkRow, below, some_proper}
use Rattle.marks.specs.Edits.{lacking}

below-first : {A B : Type 0} (f : B → Bool) (g : A → B) (k : ℕ) (xs : List A) → list_any f (take k (map g xs)) ≡ list_any (λ x. f (g x)) (take k xs)
below-first f g zero xs = refl
below-first f g (suc k) [] = refl
below-first f g (suc k) (x ∷ xs) = ap (λ z. f (g x) || z) (below-first f g k xs)

pub any_proper : (t : Names → Bool) (p : Names) → list_any t (take (length p) (prefixes p)) ≡ some_proper t p
any_proper t [] = refl
any_proper t (n ∷ p) = ap (λ z. t [] || z) (below-first t (λ q. n ∷ q) (length p) (prefixes p) ∙ any_proper (below t n) p)

module _ (m : List MarkRow) where
  one_more : (t : Bool) (q : Names) (qs : List Names) → length (cond (not t) (q ∷ qs) qs) ≡ cond t (length qs) (suc (length qs))
  one_more true q qs = refl
  one_more false q qs = refl

  pub lacking_filter : (qs : List Names) → length (filter (λ q. not (has m q)) qs) ≡ lacking m qs
  lacking_filter [] = refl
  lacking_filter (q ∷ qs) =
      one_more (has m q) q (filter (λ p. not (has m p)) qs)
      ∙ ap (λ z. cond (has m q) z (suc z)) (lacking_filter qs)
