use Rattle.std.proofs.Common.{◌≡◌, ◌+◌, ◌-◌, map, vec_len}
use Rattle.std.specs.Vec.{vec_capacity}
use Rattle.std.specs.Vec.Iter.{into_iter_items}
use Rattle.archive.specs.Calls.{response_of}
use Rattle.archive.specs.Answers.{plain_in}
use Rattle.archive.proofs.Replays.{Replaying}
use Rattle.archive.proofs.replay.make.Given as goal

abbrev pub invariant-loop-call : goal.invariant-loop-call
invariant-loop-call g l =
    Replaying (plain_in g.T.Tree.entries l.initial.session) (map response_of l.initial.replies.items) (vec_capacity l.initial.replies - (vec_len l.initial.replies + vec_len l.fn.calls)) l.fn.calls.items (into_iter_items l.call-iterator) l.replies.items (vec_len l.replies) (vec_capacity l.replies) (plain_in g.T.Tree.entries l.session)
    × (l.session.lower ≡ l.initial.session.lower)
