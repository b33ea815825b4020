use Rattle.std.proofs.Common.{drop, arith}
use Rattle.std.proofs.lemmas.List.{length-drop}
use Rattle.layer_fields.specs.Fields.{field_of}
use Rattle.layer_fields.proofs.Spans.{span_within}
use Rattle.layer_files.proofs.read.reader.Reader.skip.Goals as goal

pub overflow_add-self : goal.overflow_add-self
overflow_add-self c =
    let s = c.args.self.now in
    omega (arith, span_within (drop s.at s.bytes.now) (field_of c.args.field) c.requires, length-drop s.at s.bytes.now, s.within, c.span.ensures)

pub invariant_of-self : goal.invariant_of-self
invariant_of-self c =
    let s = c.args.self.now in
    record { within = omega (arith, span_within (drop s.at s.bytes.now) (field_of c.args.field) c.requires, length-drop s.at s.bytes.now, s.within, c.span.ensures) }
