-- Escaped text and digits. Assumes nothing.
use Rattle.std.proofs.Common.{◌≡◌, ℕ, zero, suc, ◌+◌, ◌-◌, ◌*◌, ◌/◌, ◌%◌, ◌<◌, ◌≤◌, Bool, true, false, cond, nat_lt, List, [], ◌∷◌, ◌++◌, length, get_or, take, sym, refl, ap, ◌∙◌, append_assoc, append-nil, arith}
use Rattle.std.proofs.lemmas.Bool.{cond-false}
use Rattle.std.proofs.lemmas.Bool.Decides.{nat_tests}
use Rattle.std.proofs.lemmas.List.{take_more, length-append, length-take-le}
use Rattle.std.proofs.lemmas.Str.{encode_ascii}
use Rattle.paths.proofs.Joins.{join_split}
use Rattle.words.specs.Printable.{printable}
use Rattle.listing.specs.Lines.{escape, escaped, dotted, digit, digits}

escaped-append : (a b : List ℕ) → escaped (a ++ b) ≡ escaped a ++ escaped b
escaped-append [] b = refl
escaped-append (x ∷ a) b = ap (λ z. escape x ++ z) (escaped-append a b) ∙ sym (append_assoc (escape x) (escaped a) (escaped b))

pub escaped_more : (s : List ℕ) (i : ℕ) → i < length s → escaped (take (i + 1) s) ≡ escaped (take i s) ++ escape (get_or s i 0)
escaped_more s i h =
    ap escaped (take_more s i 0 h) ∙ escaped-append (take i s) (get_or s i 0 ∷ []) ∙ ap (λ z. escaped (take i s) ++ z) (append-nil (escape (get_or s i 0)))

length-escape : (b : ℕ) → length (escape b) ≤ 4
length-escape b = go (printable b) where
  go : (t : Bool) → length (cond t (b ∷ []) (92 ∷ (48 + b / 64) ∷ (48 + b / 8 % 8) ∷ (48 + b % 8) ∷ [])) ≤ 4
  go true = omega arith
  go false = omega arith

pub length-escaped : (s : List ℕ) → length (escaped s) ≤ 4 * length s
length-escaped [] = omega arith
length-escaped (b ∷ s) = omega (arith, length-append (escape b) (escaped s), length-escape b, length-escaped s)

pub length-dotted : (s : List ℕ) → length (dotted s) ≤ 4 * length s + 2
length-dotted [] = omega arith
length-dotted (b ∷ s) = omega (arith, length-escaped (b ∷ s))

pub digits-none : (b k n : ℕ) → k ≤ 0 → digits b k n ≡ []
unfolding digits
digits-none b zero n h = refl
digits-none b (suc k) n h = absurd (omega arith)

pub digits_more : (b k n : ℕ) → 0 < k → digits b k n ≡ digits b (k - 1) (n / b) ++ digit (n % b) ∷ []
unfolding digits
digits_more b zero n h = absurd (omega arith)
digits_more b (suc k) n h = ap (λ j. digits b j (n / b) ++ digit (n % b) ∷ []) (less k) where
  less : (k : ℕ) → k ≡ suc k - 1
  less k = omega arith

pub length-digits : (b k n : ℕ) → length (digits b k n) ≡ k
unfolding digits
length-digits b zero n = refl
length-digits b (suc k) n = omega (arith, length-append (digits b k (n / b)) (digit (n % b) ∷ []), length-digits b k (n / b))

pub digit-ascii : (d : ℕ) → d < 16 → digit d < 128
digit-ascii d h = go (nat_lt d 10) where
  go : (t : Bool) → cond t (48 + d) (87 + d) < 128
  go true = omega arith
  go false = omega arith

digit-low : (d : ℕ) → d < 10 → digit d ≡ 48 + d
digit-low d h = grind (arith, nat_tests)

pub escape-octal : (b : ℕ) → b < 256 → printable b ≡ false → escape b ≡ 92 ∷ digits 8 3 b
unfolding digits
escape-octal b h f =
    cond-false (printable b) (b ∷ []) (92 ∷ (48 + b / 64) ∷ (48 + b / 8 % 8) ∷ (48 + b % 8) ∷ []) f ∙ (λ i. 92 ∷ high i ∷ sym (digit-low (b / 8 % 8) (omega arith)) i ∷ sym (digit-low (b % 8) (omega arith)) i ∷ []) where
      high : 48 + b / 64 ≡ digit (b / 8 / 8 % 8)
      high = let e : b / 8 / 8 % 8 ≡ b / 64 = omega arith in sym (ap digit e ∙ digit-low (b / 64) (omega arith))

-- what the pieces of a line need
pub ruleset pieces = (append_assoc, append-nil, length-append, length-take-le, encode_ascii, join_split, escaped_more, length-escaped, length-dotted, digits-none, digits_more, length-digits, digit-ascii, escape-octal)
