-- The bytes of what is written: none is a newline or a space. Assumes nothing.
use Rattle.std.proofs.Common.{◌≡◌, ℕ, zero, suc, ◌+◌, ◌/◌, ◌%◌, ◌^◌, ◌<◌, ◌≤◌, Bool, true, false, cond, ltb, leb, List, [], ◌∷◌, ◌++◌, decimal, refl, arith}
use Rattle.std.proofs.lemmas.Bool.{and_parts, leb-true}
use Rattle.std.proofs.lemmas.Fmt.{decimal_by_steps}
use Rattle.words.proofs.Splits.{Above, above_from}
use Rattle.words.specs.Printable.{printable}
use Rattle.trees.proofs.Fine.{all_append}
use Rattle.listing.specs.Lines.{escape, escaped, dotted, digit, digits}

-- ---- a path

escape-seen : (b : ℕ) → Above 32 (escape b)
escape-seen b = go (printable b) refl where
  go : (t : Bool) → printable b ≡ t → Above 32 (cond t (b ∷ []) (92 ∷ (48 + b / 64) ∷ (48 + b / 8 % 8) ∷ (48 + b % 8) ∷ []))
  go true e =
      let low = leb-true 33 b (and_parts (leb 33 b) _ e).0 in
      (omega arith, tt)
  go false e = (omega arith, (omega arith, (omega arith, (omega arith, tt))))

pub escaped-seen : (s : List ℕ) → Above 32 (escaped s)
escaped-seen [] = tt
escaped-seen (b ∷ bs) = all_append (λ x. 32 < x) (escape b) (escaped bs) (escape-seen b) (escaped-seen bs)

pub dotted-seen : (s : List ℕ) → Above 32 (dotted s)
dotted-seen [] = above_from 32 (46 ∷ []) refl
dotted-seen (b ∷ bs) = all_append (λ x. 32 < x) (46 ∷ 47 ∷ []) (escaped (b ∷ bs)) (above_from 32 (46 ∷ 47 ∷ []) refl) (escaped-seen (b ∷ bs))

-- ---- a number

digit-seen : (d : ℕ) → 32 < digit d
digit-seen d = go (ltb d 10) where
  go : (t : Bool) → 32 < cond t (48 + d) (87 + d)
  go true = omega arith
  go false = omega arith

pub digits-seen : (base k n : ℕ) → Above 32 (digits base k n)
unfolding digits
digits-seen base zero n = tt
digits-seen base (suc k) n =
    all_append (λ b. 32 < b) (digits base k (n / base)) (digit (n % base) ∷ []) (digits-seen base k (n / base)) (digit-seen (n % base), tt)

pub decimal-seen : (n : ℕ) → n < 2 ^ 64 → Above 32 (decimal n)
decimal-seen = decimal_by_steps (λ m ds. Above 32 ds) one more where
  one : (m : ℕ) → m < 10 → Above 32 ((48 + m) ∷ [])
  one m h = (omega arith, tt)

  more : (m : ℕ) (ds : List ℕ) → 10 ≤ m → Above 32 ds → Above 32 (ds ++ (48 + m % 10) ∷ [])
  more m ds h a =
      let last : 32 < 48 + m % 10 = omega arith in
      all_append (λ b. 32 < b) ds ((48 + m % 10) ∷ []) a (last, tt)
