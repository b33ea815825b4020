-- Sizes read back. Assumes nothing.
use Rattle.std.proofs.Common.{◌≡◌, ℕ, ◌+◌, ◌/◌, ◌%◌, ◌^◌, ◌<◌, ◌≤◌, true, false, not, ◌&&◌, eqb, leb, List, [], ◌∷◌, ◌++◌, length, get_or, Some, None, decimal, refl, ap, ◌∙◌, ⊎_elim, arith}
use Rattle.std.proofs.lemmas.Fmt.{decimal_digit, decimal_by_steps, decimal_nonempty, length-decimal-le, first_decimal}
use Rattle.std.proofs.lemmas.Bool.{and_from, or_left, or_right, not_from_false, cond-true, le-leb, eq-eqb, ne_eqb, cases_eq}
use Rattle.paths.specs.Names.{begins}
use Rattle.paths.specs.Steps.{and_then_some}
use Rattle.mtree.specs.Numbers.{numeral_from, numeral, at_most, unpadded, size_of}
use Rattle.mtree.proofs.Numerals.{low_digit, numeral_push}

none : numeral 10 [] ≡ Some 0
unfolding numeral_from
none = refl

pub decimal_back : (n : ℕ) → n < 2 ^ 64 → numeral 10 (decimal n) ≡ Some n
decimal_back = decimal_by_steps (λ m ds. numeral 10 ds ≡ Some m) one more where
  one : (m : ℕ) → m < 10 → numeral 10 ((48 + m) ∷ []) ≡ Some m
  one m h = numeral_push 10 0 [] (48 + m) 0 m none (low_digit 10 m h h) ∙ ap Some (omega arith)

  more : (m : ℕ) (ds : List ℕ) → 10 ≤ m → numeral 10 ds ≡ Some (m / 10) → numeral 10 (ds ++ (48 + m % 10) ∷ []) ≡ Some m
  more m ds h e =
      let low : m % 10 < 10 = omega arith in
      numeral_push 10 0 ds (48 + m % 10) (m / 10) (m % 10) e (low_digit 10 (m % 10) low low) ∙ ap Some (omega arith)

-- ---- no zero stands before another digit

unled : (v : List ℕ) → 48 < get_or v 0 0 → begins (48 ∷ []) v ≡ false
unled [] h = refl
unled (y ∷ ys) h = ap (λ t. t && true) (ne_eqb y 48 (λ e. omega arith))

pub tidy : (n : ℕ) → n < 2 ^ 64 → unpadded (decimal n) ≡ true
tidy n small = ⊎_elim zero_alone led (cases_eq n 0) where
  zero_alone : n ≡ 0 → unpadded (decimal n) ≡ true
  zero_alone e =
      or_right (not (begins (48 ∷ []) (decimal n))) (eqb (length (decimal n)) 1) (eq-eqb (length (decimal n)) 1 (ap length (decimal_digit n (omega arith))))

  led : (n ≡ 0 → ⊥) → unpadded (decimal n) ≡ true
  led nonzero =
      let some : 0 < n = omega arith in
      or_left (not (begins (48 ∷ []) (decimal n))) (eqb (length (decimal n)) 1) (not_from_false (begins (48 ∷ []) (decimal n)) (unled (decimal n) (first_decimal n some small)))

module _ (n : ℕ) (top : n ≤ 1099511627776) where
  pub size_small : n < 2 ^ 64
  size_small = omega arith

  shaped : (leb 1 (length (decimal n)) && (leb (length (decimal n)) 13 && unpadded (decimal n))) ≡ true
  shaped =
      let some = decimal_nonempty n size_small in
      let short = length-decimal-le 13 n (omega arith) (omega arith) size_small in
      and_from (leb 1 (length (decimal n))) _ (le-leb 1 (length (decimal n)) some) (and_from (leb (length (decimal n)) 13) _ (le-leb (length (decimal n)) 13 short) (tidy n size_small))

  pub size_back : size_of (decimal n) ≡ Some n
  size_back =
      cond-true _ (and_then_some (numeral 10 (decimal n)) (at_most 1099511627776)) None shaped
      ∙ ap (λ o. and_then_some o (at_most 1099511627776)) (decimal_back n size_small)
      ∙ cond-true (leb n 1099511627776) (Some n) None (le-leb n 1099511627776 top)
