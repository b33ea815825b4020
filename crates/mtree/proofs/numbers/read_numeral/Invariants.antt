use Rattle.std.proofs.Common.{◌≡◌, ◌^◌, ◌<◌, ◌≤◌, drop}
use Rattle.mtree.specs.Numbers.{wide_numeral}
use Rattle.mtree.proofs.Digits.{wide_from}
use Rattle.mtree.proofs.numbers.read_numeral.Given as goal

abbrev pub invariant-loop-digit : goal.invariant-loop-digit
invariant-loop-digit l = record {
  small : l.base ≤ 16 → l.number < 16 ^ l.digit-index;
  wide : l.number < 2 ^ 64;
  same : wide_numeral l.base l.digits ≡ wide_from l.base l.number (drop l.digit-index l.digits);
}
