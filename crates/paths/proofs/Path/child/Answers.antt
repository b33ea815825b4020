use Rattle.std.proofs.Common.{ap, ◌∙◌, arith}
use Rattle.paths.specs.Names.{split}
use Rattle.paths.specs.Paths.{text}
use Rattle.paths.proofs.Joins.{child_root, child_more}
use Rattle.paths.proofs.Same.{text_long}
use Rattle.paths.proofs.Path.child.Goals as goal

pub of_good-requires : goal.of_good-requires
of_good-requires c =
    let p = c.args.self.now in
    let l = text_long p in
    (child_root (text p) c.args.name.now p.sound c.in_ok-check_child.ensures (l ∙ c.if-self-eq0.true)).0

pub extended-requires : goal.extended-requires
extended-requires c =
    let p = c.args.self.now in
    let l = text_long p in
    let h = child_more (text p) c.args.name.now p.sound c.in_ok-check_child.ensures (omega arith) in
    record { fits = omega arith; sound = h.1 }

pub returns-then-self-eq0 : goal.returns-then-self-eq0
returns-then-self-eq0 c =
    let p = c.args.self.now in
    let l = text_long p in (
      c.in_ok-check_child.ensures,
      ap split c.of_good.ensures ∙ (child_root (text p) c.args.name.now p.sound c.in_ok-check_child.ensures (l ∙ c.if-self-eq0.true)).1,
    )

pub returns-else-self-eq0 : goal.returns-else-self-eq0
returns-else-self-eq0 c =
    let p = c.args.self.now in
    let l = text_long p in (
      c.in_ok-check_child.ensures,
      ap split c.extended.ensures ∙ (child_more (text p) c.args.name.now p.sound c.in_ok-check_child.ensures (omega arith)).2,
    )
