-- A listed line reads back as its row. Assumes nothing.
use Rattle.std.proofs.Common.{◌≡◌, ℕ, ◌<◌, ◌≤◌, true, ◌&&◌, ltb, leb, List, [], ◌∷◌, ◌++◌, Ok, decimal, refl, ap, ◌∙◌, arith}
use Rattle.std.proofs.lemmas.Bool.{and_parts, leb-true, ltb-true}
use Rattle.paths.specs.Names.{join}
use Rattle.paths.specs.Pieces.{front, later}
use Rattle.rows.specs.Maps.{Names}
use Rattle.trees.specs.declared.entry.Entry.{Entry}
use Rattle.trees.specs.declared.entry.Entry.TheVariants.{File, Dir}
use Rattle.trees.specs.Entries.{Row, in_range, fine}
use Rattle.listing.specs.Lines.{dotted, digits, type_dir, type_file, size_is, content_is, keywords}
use Rattle.paths.specs.Steps.{and_then}
use Rattle.words.specs.Words.{path_of}
use Rattle.mtree.specs.Keywords.{type_name, mode_name, size_name, content_name, dir_word, file_word, entry_of}
use Rattle.manifests.specs.Manifests.{placed, row_of_line}
use Rattle.trees.proofs.Fine.{all_append}
use Rattle.manifests.proofs.Dotted.{path_back}
use Rattle.listing.proofs.Seen.{dotted-seen, digits-seen, decimal-seen}
use Rattle.mtree.proofs.Sizes.{size_small}
use Rattle.words.proofs.Splits.{Above, Lacks, above_from, above-less, above-lacks, front-whole, later-whole, front_part, later_part}
use Rattle.manifests.proofs.ReadFields.{field, dir_fields, file_fields, dir_back, file_back}

-- ---- the fields behind the path word

abbrev FileRanges : ℕ → ℕ → ℕ → Type 0
FileRanges m s c = (m ≤ 4095) × (s ≤ 1099511627776) × (c < 18446744073709551616)

ranges : (m s c : ℕ) → (leb m 4095 && (leb s 1099511627776 && ltb c 18446744073709551616)) ≡ true → FileRanges m s c
ranges m s c h =
    let p = and_parts (leb m 4095) _ h in
    let q = and_parts (leb s 1099511627776) _ p.1 in
    (leb-true m 4095 p.0, leb-true s 1099511627776 q.0, ltb-true c 18446744073709551616 q.1)

digits-lack : (base k n : ℕ) → Lacks 32 (digits base k n)
digits-lack base k n = above-lacks 32 (digits base k n) (digits-seen base k n)

module _ (w : List ℕ) (a : Lacks 32 w) where
  pub front-line : (e : Entry) → front 32 (w ++ keywords e) ≡ w
  front-line (Dir d) = front_part 32 w _ a
  front-line (File f) = front_part 32 w _ a

  dir-line : (m : ℕ) → later 32 (w ++ (type_dir ++ digits 8 4 m)) ≡ dir_fields m
  dir-line m =
      later_part 32 w _ a
      ∙ (λ i. field type_name dir_word ∷ field mode_name (front-whole 32 (digits 8 4 m) (digits-lack 8 4 m) i) ∷ later-whole 32 (digits 8 4 m) (digits-lack 8 4 m) i)

  module _ (m s c : ℕ) (hs : s ≤ 1099511627776) where
    abbrev from_content : List ℕ
    from_content = content_is ++ digits 16 16 c

    abbrev from_size : List ℕ
    from_size = size_is ++ (decimal s ++ from_content)

    size_lacks : Lacks 32 (decimal s)
    size_lacks = above-lacks 32 (decimal s) (decimal-seen s (size_small s hs))

    third-field : later 32 (decimal s ++ from_content) ≡ field content_name (digits 16 16 c) ∷ []
    third-field =
        later_part 32 (decimal s) _ size_lacks
        ∙ (λ i. field content_name (front-whole 32 (digits 16 16 c) (digits-lack 16 16 c) i) ∷ later-whole 32 (digits 16 16 c) (digits-lack 16 16 c) i)

    second-field : later 32 (digits 8 4 m ++ from_size) ≡ field size_name (decimal s) ∷ field content_name (digits 16 16 c) ∷ []
    second-field =
        later_part 32 (digits 8 4 m) _ (digits-lack 8 4 m)
        ∙ (λ i. field size_name (front_part 32 (decimal s) (content_name ++ 61 ∷ digits 16 16 c) size_lacks i) ∷ third-field i)

    file-line : later 32 (w ++ (type_file ++ (digits 8 4 m ++ from_size))) ≡ file_fields m s c
    file-line =
        later_part 32 w _ a
        ∙ (λ i. field type_name file_word ∷ field mode_name (front_part 32 (digits 8 4 m) (size_name ++ 61 ∷ (decimal s ++ from_content)) (digits-lack 8 4 m) i) ∷ second-field i)

  entry_line : (e : Entry) → in_range e ≡ true → entry_of (later 32 (w ++ keywords e)) ≡ Ok e
  entry_line (Dir d) h = ap entry_of (dir-line d.mode) ∙ dir_back d.mode (leb-true d.mode 4095 h)
  entry_line (File f) h =
      let r = ranges f.mode f.size f.content h in
      ap entry_of (file-line f.mode f.size f.content r.1) ∙ file_back f.mode f.size f.content r.0 r.1 r.2

-- ---- the line

abbrev pub text_of : Names → Entry → List ℕ
text_of p e = dotted (join p) ++ keywords e

path-lacks : (p : Names) → Lacks 32 (dotted (join p))
path-lacks p = above-lacks 32 (dotted (join p)) (dotted-seen (join p))

pub row_back : (limit : ℕ) (rows : List Row) (p : Names) (e : Entry) → fine p ≡ true → in_range e ≡ true → row_of_line limit rows (text_of p e) ≡ placed limit rows p e
row_back limit rows p e f r =
    let word = front-line (dotted (join p)) (path-lacks p) e in
    ap (λ w. and_then (path_of w) (λ q. and_then (entry_of (later 32 (text_of p e))) (λ x. placed limit rows q x))) word
    ∙ ap (λ o. and_then o (λ q. and_then (entry_of (later 32 (text_of p e))) (λ x. placed limit rows q x))) (path_back p f)
    ∙ ap (λ o. and_then o (λ x. placed limit rows p x)) (entry_line (dotted (join p)) (path-lacks p) e r)

-- ---- no newline

keywords_one_line : (e : Entry) → in_range e ≡ true → Above 10 (keywords e)
keywords_one_line (Dir d) h =
    all_append (λ x. 10 < x) type_dir (digits 8 4 d.mode) (above_from 10 type_dir refl) (above-less 10 32 (omega arith) _ (digits-seen 8 4 d.mode))
keywords_one_line (File f) h =
    let r = ranges f.mode f.size f.content h in
    let ten : 10 ≤ 32 = omega arith in
    all_append (λ x. 10 < x) type_file _ (above_from 10 type_file refl)
    (all_append (λ x. 10 < x) (digits 8 4 f.mode) _ (above-less 10 32 ten _ (digits-seen 8 4 f.mode))
    (all_append (λ x. 10 < x) size_is _ (above_from 10 size_is refl)
    (all_append (λ x. 10 < x) (decimal f.size) _ (above-less 10 32 ten _ (decimal-seen f.size (size_small f.size r.1)))
    (all_append (λ x. 10 < x) content_is _ (above_from 10 content_is refl) (above-less 10 32 ten _ (digits-seen 16 16 f.content))))))

pub text_one_line : (p : Names) (e : Entry) → in_range e ≡ true → Above 10 (text_of p e)
text_one_line p e h =
    all_append (λ x. 10 < x) (dotted (join p)) (keywords e) (above-less 10 32 (omega arith) _ (dotted-seen (join p))) (keywords_one_line e h)
