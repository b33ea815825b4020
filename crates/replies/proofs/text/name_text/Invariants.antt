use Rattle.std.proofs.Common.{◌≡◌, [], ◌∷◌, ◌++◌, take, vec_items}
use Rattle.listing.specs.Lines.{escaped}
use Rattle.replies.proofs.text.name_text.Given as goal

abbrev pub invariant-loop-b : goal.invariant-loop-b
invariant-loop-b l = vec_items l.text ≡ (110 ∷ 97 ∷ 109 ∷ 101 ∷ 32 ∷ []) ++ escaped (take l.b-index l.name)
