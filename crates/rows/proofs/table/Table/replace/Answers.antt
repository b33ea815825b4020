-- The row that was found gets the value.
use Rattle.std.proofs.Common.{◌≤◌, length, sym, ap, ◌∙◌, arith}
use Rattle.paths.specs.Paths.{names}
use Rattle.rows.specs.Maps.{at, ascending}
use Rattle.rows.specs.Tables.{listed}
use Rattle.rows.proofs.Changed.{ascending-replaced, replaced-none}
use Rattle.rows.proofs.Tables.{here_in, length-set_in, listed_set}
use Rattle.rows.proofs.table.Table.replace.Goals as goal

pub returns-in_default-clause-rows : goal.returns-in_default-clause-rows
returns-in_default-clause-rows g c =
    let p = names c.args.path.now in
    sym (replaced-none p c.args.value (listed c.args.self.now) (sym (ap (λ rs. at rs p) c.sorted.ensures) ∙ c.in_default.ensures))

pub bounds-as_mut_slice-i : goal.bounds-as_mut_slice-i
bounds-as_mut_slice-i g c =
    let here = here_in c.sorted.result.rows.now c.args.self.now.rows.items c.sorted.ensures (names c.args.path.now) c.in-Some.i c.in-Some.ensures in
    omega (arith, here.within, ap length c.as_mut_slice.ensures.value)

pub invariant_of-self : goal.invariant_of-self
invariant_of-self g c =
    let t = c.args.self.now in
    let p = names c.args.path.now in
    let here = here_in c.sorted.result.rows.now t.rows.items c.sorted.ensures p c.in-Some.i c.in-Some.ensures in
    let fits : length t.rows.items ≤ g.row.N = t.fits in
    record {
      fits = omega (arith, fits, length-set_in t.rows.items c.as_mut_slice.result.now c.args.path.now c.args.value c.in-Some.i c.as_mut_slice.ensures.value);
      rises = ap ascending (listed_set t.rows.items c.as_mut_slice.result.now c.args.path.now c.args.value c.in-Some.i c.as_mut_slice.ensures.value t.rises here) ∙ ascending-replaced p c.args.value (listed t) ∙ t.rises;
    }

pub returns-clause-rows : goal.returns-clause-rows
returns-clause-rows g c =
    let t = c.args.self.now in
    let here = here_in c.sorted.result.rows.now t.rows.items c.sorted.ensures (names c.args.path.now) c.in-Some.i c.in-Some.ensures in
    listed_set t.rows.items c.as_mut_slice.result.now c.args.path.now c.args.value c.in-Some.i c.as_mut_slice.ensures.value t.rises here
