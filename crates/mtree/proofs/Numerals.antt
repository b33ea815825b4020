-- Digits read back as their number. Assumes nothing.
use Rattle.std.proofs.Common.{◌≡◌, ℕ, zero, suc, ◌+◌, ◌-◌, ◌*◌, ◌/◌, ◌%◌, ◌^◌, ◌<◌, ◌≤◌, Bool, true, false, cond, ◌&&◌, eqb, ltb, leb, List, [], ◌∷◌, ◌++◌, length, is_some, Some, None, Option, sym, refl, ap, ◌∙◌, subst, mul_comm, arith}
use native.Mathlib.Nat.{pow-succ', pow-zero}
use Rattle.std.proofs.lemmas.Nat.{div-add-mod', div_below, mod_below}
use Rattle.std.proofs.lemmas.Bool.{true≢false, and_from, and_right, cond-true, cond-false, le-leb, lt-leb, eq-eqb, lt-ltb, ltb-true, ltb-false}
use Rattle.listing.specs.Lines.{digit, digits}
use Rattle.listing.proofs.Texts.{length-digits}
use Rattle.paths.specs.Steps.{and_then_some}
use Rattle.mtree.specs.Numbers.{below, digit_value, numeral_from, numeral, mode_of, content_of}

-- ---- one digit

under : (base d e : ℕ) → d < base → e ≡ d → below base e ≡ Some d
under base d e h is = ap (below base) is ∙ cond-true (ltb d base) (Some d) None (lt-ltb d base h)

pub low_digit : (base d : ℕ) → d < base → d < 10 → digit_value base (48 + d) ≡ Some d
low_digit base d h low =
    let a = and_from (leb 48 (48 + d)) (leb (48 + d) 57) (le-leb 48 (48 + d) (omega arith)) (le-leb (48 + d) 57 (omega arith)) in
    cond-true (leb 48 (48 + d) && leb (48 + d) 57) _ _ a ∙ under base d (48 + d - 48) h (omega arith)

high_digit : (base d : ℕ) → d < base → 10 ≤ d → d < 16 → digit_value base (87 + d) ≡ Some d
high_digit base d h high top =
    let a = and_right (leb 48 (87 + d)) (leb (87 + d) 57) (lt-leb (87 + d) 57 (omega arith)) in
    let b = and_from (leb 97 (87 + d)) (leb (87 + d) 102) (le-leb 97 (87 + d) (omega arith)) (le-leb (87 + d) 102 (omega arith)) in
    cond-false (leb 48 (87 + d) && leb (87 + d) 57) _ _ a ∙ cond-true (leb 97 (87 + d) && leb (87 + d) 102) _ _ b ∙ under base d (87 + d - 87) h (omega arith)

digit_back : (base d : ℕ) → d < base → base ≤ 16 → digit_value base (digit d) ≡ Some d
digit_back base d h top = go (ltb d 10) refl where
  go : (t : Bool) → ltb d 10 ≡ t → digit_value base (cond t (48 + d) (87 + d)) ≡ Some d
  go true e = low_digit base d h (ltb-true d 10 e)
  go false e = high_digit base d h (ltb-false d 10 e) (omega arith)

-- ---- one digit more

pub numeral_push : (base a : ℕ) (xs : List ℕ) (b n d : ℕ) → numeral_from base a xs ≡ Some n → digit_value base b ≡ Some d → numeral_from base a (xs ++ b ∷ []) ≡ Some (n * base + d)
unfolding numeral_from
numeral_push base a [] b n d h g =
    let same : a ≡ n = cc in
    ap (λ o. and_then_some o (λ v. numeral_from base (a * base + v) [])) g ∙ ap (λ m. Some (m * base + d)) same
numeral_push base a (x ∷ xs) b n d h g = go (digit_value base x) (λ v k. numeral_push base (a * base + v) xs b n d k g) h where
  go : (o : Option ℕ) → ((v : ℕ) → numeral_from base (a * base + v) xs ≡ Some n → numeral_from base (a * base + v) (xs ++ b ∷ []) ≡ Some (n * base + d)) → and_then_some o (λ v. numeral_from base (a * base + v) xs) ≡ Some n → and_then_some o (λ v. numeral_from base (a * base + v) (xs ++ b ∷ [])) ≡ Some (n * base + d)
  go None more h = absurd (true≢false (sym (ap is_some h)))
  go (Some v) more h = more v h

-- ---- k digits

pub digits_back : (base k n : ℕ) → 0 < base → base ≤ 16 → n < base ^ k → numeral base (digits base k n) ≡ Some n
unfolding digits numeral_from
digits_back base zero n some top h = ap Some (omega (arith, pow-zero base))
digits_back base (suc k) n some top h =
    let room : n < base ^ k * base = subst (λ m. n < m) (pow-succ' base k ∙ mul_comm base (base ^ k)) h in
    let front = digits_back base k (n / base) some top (div_below n base (base ^ k) some room) in
    let last = digit_back base (n % base) (mod_below n base some) top in
    numeral_push base 0 (digits base k (n / base)) (digit (n % base)) (n / base) (n % base) front last ∙ ap Some (div-add-mod' n base)

-- ---- the numbers of a file

pub mode_back : (m : ℕ) → m ≤ 4095 → mode_of (digits 8 4 m) ≡ Some m
mode_back m h =
    cond-true (eqb (length (digits 8 4 m)) 4) (numeral 8 (digits 8 4 m)) None (eq-eqb (length (digits 8 4 m)) 4 (length-digits 8 4 m))
    ∙ digits_back 8 4 m (omega arith) (omega arith) (omega arith)

pub content_back : (n : ℕ) → n < 18446744073709551616 → content_of (digits 16 16 n) ≡ Some n
content_back n h =
    cond-true (eqb (length (digits 16 16 n)) 16) (numeral 16 (digits 16 16 n)) None (eq-eqb (length (digits 16 16 n)) 16 (length-digits 16 16 n))
    ∙ digits_back 16 16 n (omega arith) (omega arith) (omega arith)
