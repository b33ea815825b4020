use Rattle.std.proofs.Common.{length, sym, ap, ◌∙◌, arith}
use Rattle.paths.specs.Paths.{names}
use Rattle.rows.specs.Tables.{listed}
use Rattle.sessions.specs.Sessions.{marks_in, rows_below}
use Rattle.sessions.proofs.Copied.{fill_none, fill_more}
use Rattle.sessions.proofs.session.Session.fresh_rows.Goals as goal

pub loop-above-init : goal.loop-above-init
loop-above-init g c =
    let e = c.into_iter-above-iterator.ensures.into_iter_gives in
    fill_none c.args.mark (marks_in c.args.self.now) (rows_below g.T.Tree.entries c.args.self.now) (names c.args.path.now) c.into_iter-above-iterator.result (listed c.new-rows.result)
    (e ∙ c.prefixes-above-items.ensures.value) (omega (arith, ap length e, c.prefixes-above-items.ensures.bound)) c.new-rows.ensures

pub loop-above-preserved-in-Some-fresh_mark : goal.loop-above-preserved-in-Some-fresh_mark
loop-above-preserved-in-Some-fresh_mark g c =
    fill_more c.args.mark (marks_in c.args.self.now) (rows_below g.T.Tree.entries c.args.self.now) (names c.args.path.now) c.loop-above.above-iterator (listed c.loop-above.rows) c.loop-above.invariant
    (names c.in-Some.above) c.next.new.self c.in-Some.ensures.steps
    c.in-Some-fresh_mark.value (sym c.fresh_mark.ensures ∙ c.in-Some-fresh_mark.is) c.insert.result (listed c.insert.new.self) c.insert.ensures.answer c.insert.ensures.rows
