-- `push_replies` meets its contract. Assumes nothing.
use Rattle.std.proofs.Common.{◌++◌, inl, inr, map, vec_items, ap, ◌∙◌}
use Rattle.std.specs.Slice.Iter.{iter_rest}
use Rattle.std.specs.Iterator.Adapters.{zip_first, zip_second}
use Rattle.std.proofs.lemmas.Slice.Zip.{Zip-more, either_empty_from_Zip}
use Rattle.archive.specs.Calls.{response_of}
use Rattle.refits.proofs.Told.{one_told, all_told}
use Rattle.refits.proofs.telling.push_replies.Goals as goal

pub loop-name-preserved : goal.loop-name-preserved
loop-name-preserved c =
    let l = c.loop-name in
    let left = c.next.new.self in
    let more = Zip-more l.name-iterator left c.next.result (c.in-Some.name, c.in-Some.reply) c.in-Some.is c.next.ensures.steps in
    one_told _ _ (vec_items l.text) _ l.invariant c.in-Some.name.now.now (map (λ s. s.now) (iter_rest (zip_first left))) (response_of c.in-Some.reply.now) (map response_of (iter_rest (zip_second left))) (vec_items c.extend_from_slice.new.self)
    (ap (map (λ s. s.now)) more.0) (ap (map response_of) more.1)
    (c.in_ok-extend_from_slice.ensures.items ∙ ap (λ z. vec_items l.text ++ z) (c.as_slice.ensures.value ∙ c.in_ok-reply_text.ensures))

pub returns : goal.returns
returns c =
    let l = c.loop-name in
    let none = either_empty_from_Zip l.name-iterator c.next.new.self c.next.result c.in-None.is c.next.ensures.steps in
    all_told _ _ (vec_items l.text) _ l.invariant (elim none [ inl a ↦ inl (ap (map (λ s. s.now)) a) | inr b ↦ inr (ap (map response_of) b) ])
