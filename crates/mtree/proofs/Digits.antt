-- What one more digit does to a number. Assumes nothing.
use Rattle.std.proofs.Common.{◌≡◌, ℕ, ltb, suc, ◌+◌, ◌*◌, ◌^◌, ◌<◌, ◌≤◌, List, [], ◌∷◌, length, get_or, drop, Some, None, Option, refl, ap, ◌∙◌, mul-le-mul_right, mul-le-mul_left, pow-suc, add-one, lit<, arith}
use native.Mathlib.Nat.{pow-le-pow_right}
use Rattle.std.proofs.lemmas.List.{at_drop_more, at_drop_all}
use Rattle.std.proofs.lemmas.Bool.{cond-true, cond-false, lt-ltb, le-ltb}
use Rattle.std.proofs.lemmas.Bool.Decides.{nat_tests}
use Rattle.paths.specs.Steps.{and_then_some}
use Rattle.mtree.specs.Numbers.{below, digit_value, numeral_from, numeral, wide_numeral}

-- the number n with more digits behind it, if it has 64 bits at most
abbrev pub wide_from : ℕ → ℕ → List ℕ → Option ℕ
wide_from base n ds = and_then_some (numeral_from base n ds) (below (2 ^ 64))

-- one digit more is one power more
pub digit-fits : (n base d i : ℕ) → n < 16 ^ i → base ≤ 16 → d < 16 → n * base + d < 16 ^ (i + 1)
digit-fits n base d i h b l =
    let step : 16 ^ (i + 1) ≡ 16 ^ i * 16 = ap (λ k. 16 ^ k) (add-one i) ∙ pow-suc 16 i in
    let wide : n * base ≤ n * 16 = mul-le-mul_left n b in
    let high : suc n * 16 ≤ 16 ^ i * 16 = mul-le-mul_right 16 h in
    omega arith

pub digit-below : (base b d : ℕ) → digit_value base b ≡ Some d → d < base
digit-below base b d e = grind (arith, nat_tests)

-- up to sixteen digits write a number of 64 bits
numeral_from_fits : (base n i : ℕ) (ds : List ℕ) → base ≤ 16 → n < 16 ^ i → i + length ds ≤ 16 → wide_from base n ds ≡ numeral_from base n ds
unfolding numeral_from
numeral_from_fits base n i [] b h l =
    let few : i ≤ 16 = omega arith in
    let small : 16 ^ i ≤ 16 ^ 16 = pow-le-pow_right (omega arith) few in
    cond-true (ltb n (2 ^ 64)) (Some n) None (lt-ltb n (2 ^ 64) (omega arith))
numeral_from_fits base n i (x ∷ ds) b h l = one_fits (digit_value base x) (λ d e. numeral_from_fits base (n * base + d) (i + 1) ds b (digit-fits n base d i h b (omega (arith, digit-below base x d e))) (omega arith)) where
  one_fits : (o : Option ℕ) → ((d : ℕ) → o ≡ Some d → and_then_some (numeral_from base (n * base + d) ds) (below (2 ^ 64)) ≡ numeral_from base (n * base + d) ds) → and_then_some (and_then_some o (λ d. numeral_from base (n * base + d) ds)) (below (2 ^ 64)) ≡ and_then_some o (λ d. numeral_from base (n * base + d) ds)
  one_fits None go = refl
  one_fits (Some d) go = go d refl

pub numeral_fits : (base : ℕ) (ds : List ℕ) → base ≤ 16 → length ds ≤ 16 → wide_numeral base ds ≡ numeral base ds
numeral_fits base ds b l = numeral_from_fits base 0 0 ds b (lit< tt) (omega arith)

-- more digits do not make a number smaller
too_wide : (base n : ℕ) (ds : List ℕ) → 1 ≤ base → 2 ^ 64 ≤ n → wide_from base n ds ≡ None
unfolding numeral_from
too_wide base n [] b h = cond-false (ltb n (2 ^ 64)) (Some n) None (le-ltb n (2 ^ 64) h)
too_wide base n (x ∷ ds) b h =
    let up : n * 1 ≤ n * base = mul-le-mul_left n b in
    one_wide (digit_value base x) (λ d. too_wide base (n * base + d) ds b (omega arith)) where
      one_wide : (o : Option ℕ) → ((d : ℕ) → and_then_some (numeral_from base (n * base + d) ds) (below (2 ^ 64)) ≡ None) → and_then_some (and_then_some o (λ d. numeral_from base (n * base + d) ds)) (below (2 ^ 64)) ≡ None
      one_wide None go = refl
      one_wide (Some d) go = go d

module _ (base n : ℕ) (ds : List ℕ) (i : ℕ) where
  pub numeral_more : i < length ds → (d : ℕ) → digit_value base (get_or ds i 0) ≡ Some d → wide_from base n (drop i ds) ≡ wide_from base (n * base + d) (drop (i + 1) ds)
  unfolding numeral_from
  numeral_more lt d e = at_drop_more (wide_from base n) ds i 0 lt ∙ ap (λ o. and_then_some (and_then_some o (λ x. numeral_from base (n * base + x) (drop (i + 1) ds))) (below (2 ^ 64))) e

  pub numeral_bad : i < length ds → digit_value base (get_or ds i 0) ≡ None → wide_from base n (drop i ds) ≡ None
  unfolding numeral_from
  numeral_bad lt e = at_drop_more (wide_from base n) ds i 0 lt ∙ ap (λ o. and_then_some (and_then_some o (λ x. numeral_from base (n * base + x) (drop (i + 1) ds))) (below (2 ^ 64))) e

  pub numeral_over : i < length ds → (d : ℕ) → digit_value base (get_or ds i 0) ≡ Some d → 2 ^ 64 ≤ n * base + d → wide_from base n (drop i ds) ≡ None
  numeral_over lt d e h = numeral_more lt d e ∙ too_wide base (n * base + d) (drop (i + 1) ds) (omega (arith, digit-below base (get_or ds i 0) d e)) h

  pub numeral_end : length ds ≤ i → n < 2 ^ 64 → wide_from base n (drop i ds) ≡ Some n
  unfolding numeral_from
  numeral_end h l = at_drop_all (wide_from base n) ds i h ∙ cond-true (ltb n (2 ^ 64)) (Some n) None (lt-ltb n (2 ^ 64) l)

-- the steps of a loop over digits
pub ruleset numeral_steps = (numeral_bad, numeral_over, numeral_end)
