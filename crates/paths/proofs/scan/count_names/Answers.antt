use Rattle.std.proofs.Common.{◌≡◌, eqb, count_by, arith, rules, false-eqb}
use Rattle.paths.proofs.Joins.{split-some}
use Rattle.paths.proofs.Fronts.{later_count}
use Rattle.paths.proofs.scan.count_names.Goals as goal

pub returns : goal.returns
returns c =
    let s = c.args.s.now in
    let n : c.count.result ≡ count_by (λ b. eqb b 47) s = search rules in
    rw (split-some s (omega (arith, false-eqb _ 0 c.if-is_empty.ensures)), later_count 47 s) (omega arith)
