use Rattle.std.proofs.Common.{◌+◌, length, drop, sym, ap, ◌∙◌, subst, arith, rules}
use Rattle.std.proofs.lemmas.Bool.{eqb-true}
use Rattle.words.specs.Escapes.{Sound}
use Rattle.words.proofs.Machine.{after, after_full, machine_steps}
use Rattle.words.proofs.escape.unescape.Goals as goal
use Rattle.words.proofs.escape.unescape.Goals.{in-To, in-Out+then-not-is_full, in-Out+else-not-is_full}

pub loop-byte-preserved : goal.loop-byte-preserved
loop-byte-preserved c =
    let i = c.loop-byte.invariant in
    let s = c.loop-byte.plain.items in
    let w = c.args.word.now in
    let k = c.loop-byte.byte-index in
    elim c.match-branch-2.branch [
      | in-To v ↦ grind (arith, machine_steps)
      | in-Out+then-not-is_full v ↦ grind (arith, machine_steps)
      | in-Out+else-not-is_full v ↦
          let full = eqb-true (length s) 123 (sym v.is_full.ensures.value ∙ v.if-not-is_full.false) in
          let e = after_full 123 s c.loop-byte.state w k c.loop-byte-test.true (omega arith) v.in-Out.made (search rules) in
          record {
            sound = subst Sound (sym v.state-is) tt;
            fits = omega (arith, ap (λ p. length p.items) v.plain-is);
            same = i.same ∙ e ∙ (λ j. after 123 (sym v.plain-is j).items (sym v.state-is j) (drop (k + 1) w));
          }
    ]
