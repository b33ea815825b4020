use Rattle.std.proofs.Common.{◌∷◌, ◌++◌, ◌∙◌, length, ap, refl, arith}
use Rattle.std.specs.List.{concat}
use Rattle.listing.specs.Lines.{listing, header}
use Rattle.listing.proofs.Rest.{all_told}
use Rattle.trees.proofs.Written.{unwritten, room_for, more, done}
use Rattle.listing.proofs.write.Goals as goal

pub loop-line-init : goal.loop-line-init
loop-line-init g c =
    let rows = (g.T.Tree.entries c.args.tree.now).rows in
    let head = c.copy_from_slice.ensures.after in
    let all = ap concat (c.into_iter-line-iterator.ensures.into_iter_gives ∙ c.of-line-items.ensures) ∙ all_told rows in
    let none = unwritten (listing rows) c.args.buffer.now (header ∷ _) (ap (λ z. header ++ z) all) in
    more _ _ _ _ _ none header _ refl c.copy_from_slice.new.self 7 7 head (omega arith) (ap length head) (omega (arith, ap length head))

pub loop-line-preserved : goal.loop-line-preserved
loop-line-preserved g c =
    let w = c.loop-line.invariant in
    let copy = c.copy_from_slice-in-loop-line.ensures in
    let bytes = copy.after ∙ c.as_bytes.ensures.value ∙ c.as_str.ensures.value in
    let len = c.len-end.ensures.value in
    let fits = room_for _ _ _ _ _ w _ _ c.in-Some.ensures.steps in
    more _ _ _ _ _ w _ _ c.in-Some.ensures.steps _ _ _ bytes (omega (arith, fits, c.requires)) (omega (arith, ap length bytes, len)) (omega (arith, ap length bytes, len))

pub returns : goal.returns
returns g c = done _ _ _ _ _ c.loop-line.invariant c.in-None.ensures.steps.0
