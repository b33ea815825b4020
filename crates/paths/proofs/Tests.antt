-- Tests of texts. Assumes nothing.
use Rattle.std.proofs.Common.{◌≡◌, ℕ, true, eqb, List, [], ◌∷◌, sym, refl}
use Rattle.std.proofs.lemmas.Bool.{and_parts, and_from, eq-eqb, eqb-true, true≢false}
use Rattle.paths.specs.Names.{same}

pub same-itself : (s : List ℕ) → same s s ≡ true
same-itself [] = refl
same-itself (b ∷ bs) = and_from (eqb b b) (same bs bs) (eq-eqb b b refl) (same-itself bs)

pub same-exact : (s t : List ℕ) → same s t ≡ true → t ≡ s
same-exact [] [] h = refl
same-exact [] (y ∷ t) h = absurd (true≢false (sym h))
same-exact (x ∷ s) [] h = absurd (true≢false (sym h))
same-exact (x ∷ s) (y ∷ t) h =
    let p = and_parts (eqb y x) (same s t) h in
    λ i. eqb-true y x p.0 i ∷ same-exact s t p.1 i
