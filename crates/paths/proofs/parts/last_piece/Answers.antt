use Rattle.std.proofs.Common.{◌+◌, sym, ◌∙◌, rules}
use Rattle.std.proofs.lemmas.List.{take_rest}
use Rattle.paths.proofs.Steps.{last_none, last_at}
use Rattle.paths.proofs.parts.last_piece.Goals as goal

pub returns-in-Some-clause-value : goal.returns-in-Some-clause-value
returns-in-Some-clause-value c =
    let s = c.args.s.now in
    take_rest s (c.in-Some.i + 1) ∙ sym (last_at s c.in-Some.i (search rules) (search rules) (search rules))

pub returns-in-None-clause-value : goal.returns-in-None-clause-value
returns-in-None-clause-value c = sym (last_none c.args.s.now (search rules))
