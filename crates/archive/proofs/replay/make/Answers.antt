use Rattle.std.proofs.Common.{◌∙◌, ◌+◌, ◌-◌, vec_len, arith}
use Rattle.std.specs.Vec.{vec_capacity}
use Rattle.std.specs.Vec.Iter.{into_iter_items}
use Rattle.std.proofs.lemmas.List.{nil_from_length}
use Rattle.archive.specs.Answers.{plain_in}
use Rattle.archive.proofs.Replays.{one_made, all_made}
use Rattle.archive.proofs.replay.make.Goals as goal

pub loop-call-preserved : goal.loop-call-preserved
loop-call-preserved g c =
    let e = g.T.Tree.entries in
    let l = c.loop-call in
    let into = c.args.replies.now in (
      one_made (plain_in e c.args.session.now) into.items (vec_capacity into - (vec_len into + vec_len c.args.calls)) c.args.calls.items (into_iter_items l.call-iterator) l.replies.items (vec_len l.replies) (vec_capacity l.replies) (plain_in e l.session) l.invariant.0
          c.in-Some.call (into_iter_items c.next.new.self) c.perform.result c.push.new.self.items (vec_len c.push.new.self) (vec_capacity c.push.new.self) (plain_in e c.perform.new.session)
          c.in-Some.ensures.steps.0 c.perform.ensures.reply c.perform.ensures.after (rw c.unwrap.ensures at c.push.ensures.items) (rw c.unwrap.ensures at c.push.ensures.len) c.push.ensures.capacity,
      c.perform.ensures.lower ∙ l.invariant.1,
    )

pub returns : goal.returns
returns g c =
    let e = g.T.Tree.entries in
    let l = c.loop-call in
    let into = c.args.replies.now in
    let none = nil_from_length _ (omega (arith, l.call-iterator.rest.ok.0, c.in-None.ensures.steps.0)) in
    let made = all_made (plain_in e c.args.session.now) into.items (vec_capacity into - (vec_len into + vec_len c.args.calls)) c.args.calls.items (into_iter_items l.call-iterator) l.replies.items (vec_len l.replies) (vec_capacity l.replies) (plain_in e l.session) l.invariant.0 none in
    record { replies = made.0; room = made.1; after = made.2; lower = l.invariant.1 }
