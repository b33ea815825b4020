-- The words of a line read back as their values. Assumes nothing.
use Rattle.std.proofs.Common.{◌≡◌, ℕ, ◌+◌, ◌/◌, ◌%◌, ◌^◌, ◌<◌, ◌≤◌, Bool, true, false, cond, ◌&&◌, ltb, leb, List, [], ◌∷◌, ◌++◌, length, Some, None, decimal, refl, ap, ◌∙◌, arith}
use Rattle.std.proofs.lemmas.Bool.{and_from, cond-true, le-leb, lt-ltb, ltb-true}
use Rattle.std.proofs.lemmas.Fmt.{decimal_nonempty}
use Rattle.std.proofs.lemmas.List.{length-append}
use Rattle.paths.specs.Steps.{and_then_some}
use Rattle.words.specs.Printable.{printable}
use Rattle.words.specs.Escapes.{unescaped}
use Rattle.trees.proofs.Fine.{Bytes}
use Rattle.listing.specs.Lines.{escape, escaped, digits}
use Rattle.listing.proofs.Texts.{length-digits}
use Rattle.listing.proofs.Undoing.{undone-escaped}
use Rattle.mtree.specs.Numbers.{below, numeral, wide_numeral, unpadded}
use Rattle.mtree.proofs.Numerals.{digits_back}
use Rattle.mtree.proofs.Sizes.{decimal_back, tidy}
use Rattle.scripts.specs.Values.{name_word, mode_word, size_word}
use Rattle.scripts.specs.Written.{mode_digits}

-- ---- a name

escape-some : (b : ℕ) → 1 ≤ length (escape b)
escape-some b = go (printable b) where
  go : (t : Bool) → 1 ≤ length (cond t (b ∷ []) (92 ∷ (48 + b / 64) ∷ (48 + b / 8 % 8) ∷ (48 + b % 8) ∷ []))
  go true = omega arith
  go false = omega arith

pub name_back : (b : ℕ) (bs : List ℕ) → Bytes (b ∷ bs) → name_word (escaped (b ∷ bs)) ≡ Some (b ∷ bs)
name_back b bs h =
    let some : 1 ≤ length (escape b ++ escaped bs) = omega (arith, escape-some b, length-append (escape b) (escaped bs)) in
    cond-true (leb 1 (length (escape b ++ escaped bs))) (unescaped (escape b ++ escaped bs)) None (le-leb 1 (length (escape b ++ escaped bs)) some)
    ∙ undone-escaped (b ∷ bs) h

-- ---- a mode

octal_back : (k m : ℕ) → 1 ≤ k → k ≤ 6 → m < 65536 → m < 8 ^ k → mode_word (digits 8 k m) ≡ Some m
octal_back k m some few small room =
    cond-true (leb 1 (length (digits 8 k m)) && leb (length (digits 8 k m)) 6) (and_then_some (numeral 8 (digits 8 k m)) (below 65536)) None
    (ap (λ n. leb 1 n && leb n 6) (length-digits 8 k m) ∙ and_from (leb 1 k) (leb k 6) (le-leb 1 k some) (le-leb k 6 few))
    ∙ ap (λ o. and_then_some o (below 65536)) (digits_back 8 k m (omega arith) (omega arith) room)
    ∙ cond-true (ltb m 65536) (Some m) None (lt-ltb m 65536 small)

pub mode_word_back : (m : ℕ) → m < 65536 → mode_word (mode_digits m) ≡ Some m
mode_word_back m h = go (ltb m 4096) refl where
  go : (t : Bool) → ltb m 4096 ≡ t → mode_word (cond t (digits 8 4 m) (digits 8 6 m)) ≡ Some m
  go true e =
      let small = ltb-true m 4096 e in
      octal_back 4 m (omega arith) (omega arith) h (omega arith)
  go false e = octal_back 6 m (omega arith) (omega arith) h (omega arith)

-- ---- a size

pub size_word_back : (n : ℕ) → n < 2 ^ 64 → size_word (decimal n) ≡ Some n
size_word_back n h =
    cond-true (leb 1 (length (decimal n)) && unpadded (decimal n)) (wide_numeral 10 (decimal n)) None
    (and_from (leb 1 (length (decimal n))) (unpadded (decimal n)) (le-leb 1 (length (decimal n)) (decimal_nonempty n h)) (tidy n h))
    ∙ ap (λ o. and_then_some o (below (2 ^ 64))) (decimal_back n h)
    ∙ cond-true (ltb n (2 ^ 64)) (Some n) None (lt-ltb n (2 ^ 64) h)
