-- Calls made in two parts. Assumes nothing.
use Rattle.std.proofs.Common.{◌≡◌, List, [], ◌∷◌, ◌++◌, refl, ap}
use Rattle.marks.specs.Plain.{Plain}
use Rattle.archive.specs.Calls.{Request}
use Rattle.archive.specs.Answers.{answer, after}
use Rattle.archive.specs.Runs.{answers, afterwards}

pub answers-append : (s : Plain) (xs ys : List Request) → answers s (xs ++ ys) ≡ answers s xs ++ answers (afterwards s xs) ys
unfolding answers afterwards
answers-append s [] ys = refl
answers-append s (x ∷ xs) ys = ap (λ zs. answer s x ∷ zs) (answers-append (after s x) xs ys)

pub afterwards-append : (s : Plain) (xs ys : List Request) → afterwards s (xs ++ ys) ≡ afterwards (afterwards s xs) ys
unfolding afterwards
afterwards-append s [] ys = refl
afterwards-append s (x ∷ xs) ys = afterwards-append (after s x) xs ys
