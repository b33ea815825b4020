use Rattle.std.proofs.Common.{sym, ◌∙◌, ap, length, arith, rules}
use Rattle.listing.proofs.Rest.{left-none, left-some}
use Rattle.listing.proofs.lines.LinesIterator.next.Goals as goal

pub returns-in_err-entry-clause-steps : goal.returns-in_err-entry-clause-steps
returns-in_err-entry-clause-steps g c =
    let l = c.self.inside in
    let e = sym c.self.view_is ∙ left-none (g.T.Tree.entries l.tree.now) l.at c.in_ok-path.path c.in_ok-path.was (sym c.entry_at.ensures ∙ c.in_err-entry.was) in
    search rules

pub returns-clause-steps : goal.returns-clause-steps
returns-clause-steps g c =
    let l = c.self.inside in
    let e = left-some (g.T.Tree.entries l.tree.now) l.at c.in_ok-path.path c.in_ok-path.was c.in_ok-entry.entry c.following-self-inside.result c.line_of.result.bytes (sym c.entry_at.ensures ∙ c.in_ok-entry.was) c.following-self-inside.ensures c.line_of.ensures in
    sym c.self.view_is ∙ e

pub returns-clause-goes : goal.returns-clause-goes
returns-clause-goes g c =
    let l = c.self.inside in
    let e = left-some (g.T.Tree.entries l.tree.now) l.at c.in_ok-path.path c.in_ok-path.was c.in_ok-entry.entry c.following-self-inside.result c.line_of.result.bytes (sym c.entry_at.ensures ∙ c.in_ok-entry.was) c.following-self-inside.ensures c.line_of.ensures in
    record { on = λ f. (tt, tt, omega (arith, ap length e, ap length c.self.view_is)); keeps = tt; rests = λ f. tt }
