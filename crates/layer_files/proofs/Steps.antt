-- A row that is put behind the others. Assumes nothing.
use Rattle.std.proofs.Common.{◌≡◌, ◌+◌, ◌<◌, Bool, true, cond, leb, List, [], ◌∷◌, ◌++◌, length, ap, ◌∙◌, arith}
use Rattle.std.proofs.lemmas.Bool.{and_from, cond-true, le-leb}
use Rattle.rows.specs.Maps.{ascending}
use Rattle.rows.specs.Tables.{spliced, splices}
use Rattle.rows.proofs.Lasts.{rises_front, spliced_last}
use Rattle.marks.specs.Marks.{MarkRow, layered}
use Rattle.marks.proofs.Merges.{layer_parts}

pub pushed : (m : List MarkRow) (r : MarkRow) → length m < 192 → layered (m ++ r ∷ []) ≡ true → (ok : Bool) (after : List MarkRow) → ok ≡ splices 192 (r ∷ []) m → after ≡ cond ok (spliced (r ∷ []) m) m → after ≡ m ++ r ∷ []
pushed m r few l ok after was put =
    let front = rises_front m r [] (layer_parts (m ++ r ∷ []) l).0 in
    let last = spliced_last m r front.1 in
    let fits = and_from (leb (length m + 1) 192) (ascending (spliced (r ∷ []) m)) (le-leb (length m + 1) 192 (omega arith)) (ap ascending last ∙ front.0) in
    put ∙ cond-true ok (spliced (r ∷ []) m) m (was ∙ fits) ∙ last
