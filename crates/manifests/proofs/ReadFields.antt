-- Keyword fields read back. Assumes nothing.
use Rattle.std.proofs.Common.{◌≡◌, ℕ, suc, ◌+◌, ◌<◌, ◌≤◌, true, ltb, List, [], ◌∷◌, ◌++◌, length, drop, Some, Ok, Err, decimal, Option, refl, ap, ◌∙◌, add-one, arith}
use Rattle.std.proofs.lemmas.List.{length-append}
use Rattle.std.proofs.lemmas.Bool.{and_from, cond-true, lt-ltb}
use Rattle.paths.specs.Names.{same}
use Rattle.paths.specs.Pieces.{front}
use Rattle.paths.proofs.Tests.{same-itself}
use Rattle.trees.specs.declared.entry.Entry.TheVariants.{File, Dir}
use Rattle.listing.specs.Lines.{digits}
use Rattle.words.specs.declared.fault.Cause.TheVariants.{Keyword}
use Rattle.paths.specs.Steps.{and_then}
use Rattle.mtree.specs.Numbers.{mode_of, size_of, content_of}
use Rattle.mtree.specs.Keywords.{type_name, mode_name, size_name, content_name, dir_word, file_word, expected, valued, number, no_more, typed, entry_of}
use Rattle.mtree.proofs.Numerals.{mode_back, content_back}
use Rattle.mtree.proofs.Sizes.{size_back}
use Rattle.words.proofs.Splits.{Lacks, above_from, above-lacks, front_part}

drop_past : (s v : List ℕ) (b : ℕ) → drop (suc (length s)) (s ++ b ∷ v) ≡ v
drop_past [] v b = refl
drop_past (x ∷ s) v b = drop_past s v b

-- the field of a keyword
abbrev pub field : List ℕ → List ℕ → List ℕ
field name v = name ++ 61 ∷ v

module _ (name v : List ℕ) (ks : List (List ℕ)) (a : Lacks 61 name) where
  name_is : front 61 (field name v) ≡ name
  name_is = front_part 61 name v a

  longer : length (front 61 (field name v)) < length (field name v)
  longer = omega (arith, ap length name_is, length-append name (61 ∷ v))

  value-is : drop (length (front 61 (field name v)) + 1) (field name v) ≡ v
  value-is =
      ap (λ n. drop (length n + 1) (field name v)) name_is ∙ ap (λ k. drop k (field name v)) (add-one (length name)) ∙ drop_past name v 61

  named : same name (front 61 (field name v)) ≡ true
  named = ap (same name) name_is ∙ same-itself name

  expected_back : expected name (field name v ∷ ks) ≡ Ok v
  expected_back =
      cond-true _ (Ok (drop (length (front 61 (field name v)) + 1) (field name v))) (Err Keyword) (and_from (ltb (length (front 61 (field name v))) (length (field name v))) (same name (front 61 (field name v))) (lt-ltb _ _ longer) named)
      ∙ ap Ok value-is

  number_back : (rule : List ℕ → Option ℕ) (n : ℕ) → rule v ≡ Some n → number rule name (field name v ∷ ks) ≡ Ok n
  number_back rule n is = ap (λ r. and_then r (λ w. valued (rule w))) expected_back ∙ ap valued is

-- ---- the fields of an entry

abbrev pub dir_fields : ℕ → List (List ℕ)
dir_fields m = field type_name dir_word ∷ field mode_name (digits 8 4 m) ∷ []

abbrev pub file_fields : ℕ → ℕ → ℕ → List (List ℕ)
file_fields m s c =
    field type_name file_word ∷ field mode_name (digits 8 4 m) ∷ field size_name (decimal s) ∷ field content_name (digits 16 16 c) ∷ []

type_lacks : Lacks 61 type_name
type_lacks = above-lacks 61 type_name (above_from 61 type_name refl)

mode_lacks : Lacks 61 mode_name
mode_lacks = above-lacks 61 mode_name (above_from 61 mode_name refl)

pub dir_back : (m : ℕ) → m ≤ 4095 → entry_of (dir_fields m) ≡ Ok (Dir (record { mode = m }))
dir_back m h =
    let ks : List (List ℕ) = field mode_name (digits 8 4 m) ∷ [] in
    ap (λ r. and_then r (λ v. typed v ks)) (expected_back type_name dir_word ks type_lacks)
    ∙ ap (λ r. and_then r (λ n. no_more [] (Dir (record { mode = n })))) (number_back mode_name (digits 8 4 m) [] mode_lacks mode_of m (mode_back m h))

module _ (m s c : ℕ) (hm : m ≤ 4095) (hs : s ≤ 1099511627776) (hc : c < 18446744073709551616) where
  abbrev third : List (List ℕ)
  third = field content_name (digits 16 16 c) ∷ []

  abbrev second : List (List ℕ)
  second = field size_name (decimal s) ∷ third

  abbrev all_three : List (List ℕ)
  all_three = field mode_name (digits 8 4 m) ∷ second

  content_is : number content_of content_name third ≡ Ok c
  content_is = number_back content_name (digits 16 16 c) [] (above-lacks 61 content_name (above_from 61 content_name refl)) content_of c (content_back c hc)

  size_is : number size_of size_name second ≡ Ok s
  size_is = number_back size_name (decimal s) third (above-lacks 61 size_name (above_from 61 size_name refl)) size_of s (size_back s hs)

  mode_is : number mode_of mode_name all_three ≡ Ok m
  mode_is = number_back mode_name (digits 8 4 m) second mode_lacks mode_of m (mode_back m hm)

  pub file_back : entry_of (file_fields m s c) ≡ Ok (File (record { mode = m; size = s; content = c }))
  file_back =
      ap (λ r. and_then r (λ v. typed v all_three)) (expected_back type_name file_word all_three type_lacks)
      ∙ ap (λ r. and_then r (λ x. and_then (number size_of size_name second) (λ y. and_then (number content_of content_name third) (λ z. no_more [] (File (record { mode = x; size = y; content = z })))))) mode_is
      ∙ ap (λ r. and_then r (λ y. and_then (number content_of content_name third) (λ z. no_more [] (File (record { mode = m; size = y; content = z }))))) size_is
      ∙ ap (λ r. and_then r (λ z. no_more [] (File (record { mode = m; size = s; content = z })))) content_is
