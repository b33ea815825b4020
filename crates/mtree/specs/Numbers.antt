-- Numbers as a manifest writes them. Assumes nothing.
use Rattle.std.specs.Prelude.{ℕ, ◌+◌, ◌-◌, ◌*◌, ◌^◌, Bool, cond, not, ◌&&◌, ◌||◌, List, [], ◌∷◌, length, Some, None, Option, ◌==◌, nat_le, nat_lt}
use Rattle.paths.specs.Names.{begins}
use Rattle.paths.specs.Steps.{and_then_some}

-- a number, if it is below the limit
abbrev pub below : ℕ → ℕ → Option ℕ
below limit d = cond (nat_lt d limit) (Some d) None

-- the value of a digit, `0` to `9` or `a` to `f`, if it is below the base
abbrev pub digit_value : ℕ → ℕ → Option ℕ
digit_value base b = cond (nat_le 48 b && nat_le b 57) (below base (b - 48)) (cond (nat_le 97 b && nat_le b 102) (below base (b - 87)) None)

-- the number n with more digits behind it
unfoldable pub numeral_from : ℕ → ℕ → List ℕ → Option ℕ
numeral_from base n [] = Some n
numeral_from base n (b ∷ bs) = and_then_some (digit_value base b) (λ d. numeral_from base (n * base + d) bs)

abbrev pub numeral : ℕ → List ℕ → Option ℕ
numeral base ds = numeral_from base 0 ds

-- the number of digits, if it has 64 bits at most
abbrev pub wide_numeral : ℕ → List ℕ → Option ℕ
wide_numeral base ds = and_then_some (numeral base ds) (below (2 ^ 64))

-- four octal digits
abbrev pub mode_of : List ℕ → Option ℕ
mode_of v = cond (length v == 4) (numeral 8 v) None

abbrev pub at_most : ℕ → ℕ → Option ℕ
at_most top n = cond (nat_le n top) (Some n) None

-- no zero stands before another digit
abbrev pub unpadded : List ℕ → Bool
unpadded v = not (begins (48 ∷ []) v) || length v == 1

-- one to thirteen digits, with no zero before another; at most 2^40
abbrev pub size_of : List ℕ → Option ℕ
size_of v =
    cond (nat_le 1 (length v) && (nat_le (length v) 13 && unpadded v)) (and_then_some (numeral 10 v) (at_most 1099511627776)) None

-- sixteen hexadecimal digits
abbrev pub content_of : List ℕ → Option ℕ
content_of v = cond (length v == 16) (numeral 16 v) None
