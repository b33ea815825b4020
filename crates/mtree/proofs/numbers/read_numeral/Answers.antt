use Rattle.std.proofs.Common.{◌≡◌, ◌+◌, ◌*◌, drop, sym, ap, ◌∙◌, arith}
use Rattle.mtree.proofs.Digits.{wide_from, digit-fits, numeral_more}
use Rattle.mtree.proofs.numbers.read_numeral.Goals as goal

pub loop-digit-preserved : goal.loop-digit-preserved
loop-digit-preserved c =
    let base = c.args.base in
    let ds = c.args.digits.now in
    let d = c.in_ok-digit.digit in
    let n = c.loop-digit.number in
    let i = c.loop-digit.digit-index in
    let is : c.in_ok-number.number ≡ n * base + d = c.in_ok-number.ensures.1 ∙ ap (λ k. k + d) c.in_ok-checked_mul.ensures.1 in
    record {
      small = λ b. omega (arith, is, digit-fits n base d i (c.loop-digit.invariant.small b) b (omega (arith, c.in_ok-digit.ensures.below)));
      wide = omega (arith, is, c.in_ok-number.ensures.0);
      same = c.loop-digit.invariant.same ∙ numeral_more base n ds i c.loop-digit-test.true d (sym c.in_ok-digit.ensures.value) ∙ ap (λ k. wide_from base k (drop (i + 1) ds)) (sym is);
    }
