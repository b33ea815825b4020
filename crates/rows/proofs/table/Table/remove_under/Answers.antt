-- The rows that do not lie under the path stay.
use Rattle.std.proofs.Common.{◌-◌, ◌≤◌, not, length, ap, ◌∙◌, arith}
use Rattle.paths.specs.Paths.{names}
use Rattle.rows.specs.Maps.{under, ascending}
use Rattle.rows.specs.Tables.{listed}
use Rattle.rows.proofs.Changed.{ascending-only}
use Rattle.rows.proofs.Tables.{same_length, nothing_out, listed_out}
use Rattle.rows.proofs.table.Table.remove_under.Goals as goal

pub returns-then-start-end : goal.returns-then-start-end
returns-then-start-end g c = nothing_out c.sorted.result.rows.now c.args.self.now.rows.items (names c.args.path.now) c.under-start.result.start c.under-start.result.end c.sorted.ensures c.under-start.ensures.rows c.if-start-end.true

pub overflow_sub-left-2 : goal.overflow_sub-left-2
overflow_sub-left-2 g c = let n = same_length c.sorted.result.rows.now c.args.self.now.rows.items c.sorted.ensures in omega (arith, n, c.under-start.ensures.within, c.len.ensures.value)

pub close-requires-clause-within : goal.close-requires-clause-within
close-requires-clause-within g c = let n = same_length c.sorted.result.rows.now c.args.self.now.rows.items c.sorted.ensures in omega (arith, n, c.under-start.ensures.within, ap length c.as_mut_slice.ensures.value)

pub invariant_of-self : goal.invariant_of-self
invariant_of-self g c =
    let t = c.args.self.now in
    let p = names c.args.path.now in
    let fits : length t.rows.items ≤ g.row.N = t.fits in
    let e = listed_out c.sorted.result.rows.now t.rows.items c.as_mut_slice.result.now c.close.new.items c.truncate.new.self.items p c.under-start.result.start c.under-start.result.end _ c.sorted.ensures c.under-start.ensures.rows c.as_mut_slice.ensures.value c.close.ensures.long c.close.ensures.front (ap (λ n. n - (c.under-start.result.end - c.under-start.result.start)) c.len.ensures.value) c.truncate.ensures.items in
    record { fits = omega (arith, fits, c.truncate.ensures.len); rises = ap ascending e ∙ ascending-only (λ q. not (under p q)) (listed t) t.rises }

pub returns : goal.returns
returns g c =
    let t = c.args.self.now in
    listed_out c.sorted.result.rows.now t.rows.items c.as_mut_slice.result.now c.close.new.items c.truncate.new.self.items (names c.args.path.now) c.under-start.result.start c.under-start.result.end _ c.sorted.ensures c.under-start.ensures.rows c.as_mut_slice.ensures.value c.close.ensures.long c.close.ensures.front (ap (λ n. n - (c.under-start.result.end - c.under-start.result.start)) c.len.ensures.value) c.truncate.ensures.items
