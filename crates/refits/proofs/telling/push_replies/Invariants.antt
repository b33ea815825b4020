use Rattle.std.proofs.Common.{◌≡◌, ◌++◌, map, vec_items}
use Rattle.std.specs.Slice.Iter.{iter_rest}
use Rattle.std.specs.Iterator.Adapters.{zip_first, zip_second}
use Rattle.archive.specs.Calls.{response_of}
use Rattle.refits.specs.Steps.{texts}
use Rattle.refits.proofs.telling.push_replies.Given as goal

abbrev pub invariant-loop-name : goal.invariant-loop-name
invariant-loop-name l =
    vec_items l.text ++ texts (map (λ s. s.now) (iter_rest (zip_first l.name-iterator))) (map response_of (iter_rest (zip_second l.name-iterator)))
    ≡ vec_items l.initial.text ++ texts (map (λ s. s.now) l.names) (map response_of l.replies)
