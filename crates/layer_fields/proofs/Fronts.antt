-- The field that bytes begin with, and the field that says what was taken from it. Assumes nothing.
use Rattle.std.proofs.Common.{◌≡◌, ℕ, zero, suc, ◌+◌, ◌<◌, ◌≤◌, Bool, true, false, cond, ◌&&◌, eqb, leb, List, [], ◌∷◌, ◌++◌, length, get_or, take, drop, Some, None, sym, refl, ap, ◌∙◌, subst, arith, take-append-drop}
use Rattle.std.proofs.lemmas.List.{length-take-le, length-drop, drop-drop, nil_from_length}
use Rattle.std.proofs.lemmas.Bool.{and_parts, leb-true, eqb-true}
use Rattle.std.proofs.lemmas.Nat.{be_bytes_2, be_bytes_8}
use Rattle.std.specs.Int.{w16, w64, to_be_bytes, from_be_bytes}
use Rattle.paths.proofs.Granted.{if_some}
use Rattle.trees.specs.declared.entry.Entry.{Entry}
use Rattle.trees.proofs.Fine.{Bytes}
use Rattle.layer_fields.specs.Fields.{Field, field_bytes, span, front_field}
use Rattle.layer_fields.specs.Said.{only_byte, version_of, text_of, text_field, dir_of, file_of, entry_of, entry_field, is_whiteout, whiteout_field, count_of, count_field}

-- ---- parts of bytes

bytes_take : (n : ℕ) (s : List ℕ) → Bytes s → Bytes (take n s)
bytes_take zero s b = tt
bytes_take (suc n) [] b = tt
bytes_take (suc n) (x ∷ s) b = (b.0, bytes_take n s b.1)

pub bytes_drop : (n : ℕ) (s : List ℕ) → Bytes s → Bytes (drop n s)
bytes_drop zero s b = b
bytes_drop (suc n) [] b = tt
bytes_drop (suc n) (x ∷ s) b = bytes_drop n s b.1

bytes_at : (s : List ℕ) → Bytes s → (i : ℕ) → get_or s i 0 < 256
bytes_at [] b i = omega arith
bytes_at (x ∷ s) b zero = b.0
bytes_at (x ∷ s) b (suc i) = bytes_at s b.1 i

two_back : (v : List ℕ) → length v ≡ 2 → Bytes v → to_be_bytes w16 (from_be_bytes w16 v) ≡ v
two_back v l b = be_bytes_2 v (from_be_bytes w16 v) l (bytes_at v b) refl

eight_back : (v : List ℕ) → length v ≡ 8 → Bytes v → to_be_bytes w64 (from_be_bytes w64 v) ≡ v
eight_back v l b = be_bytes_8 v (from_be_bytes w64 v) l (bytes_at v b) refl

two_below : (v : List ℕ) → length v ≡ 2 → Bytes v → from_be_bytes w16 v < 65536
two_below [] l b = absurd (omega arith)
two_below (x ∷ []) l b = absurd (omega arith)
two_below (x ∷ y ∷ v) l b = omega (arith, b.0, b.1.0)

-- ---- a field at the front

-- the bytes are that field's, and others behind it
pub record Fronted (bs : List ℕ) (f : Field) : Type 0 where
  pub whole : bs ≡ field_bytes f ++ drop (span f) bs
  pub bytes : Bytes f.1
  pub short : length f.1 < 65536

cut_back : (t h l n : ℕ) (rest : List ℕ) → Bytes (t ∷ h ∷ l ∷ rest) → n ≡ from_be_bytes w16 (h ∷ l ∷ []) → n ≤ length rest → Fronted (t ∷ h ∷ l ∷ rest) (t, take n rest)
cut_back t h l n rest b e fits =
    let long : length (take n rest) ≡ n = length-take-le n rest fits in
    let number : Bytes (h ∷ l ∷ []) = (b.1.0, (b.1.1.0, tt)) in
    let two : to_be_bytes w16 (length (take n rest)) ≡ h ∷ l ∷ [] = ap (to_be_bytes w16) (long ∙ e) ∙ two_back (h ∷ l ∷ []) refl number in
    let past : 3 + length (take n rest) ≡ suc (suc (suc n)) = omega arith in
    record {
      whole = sym ((λ i. (t ∷ (two i ++ take n rest)) ++ drop (past i) (t ∷ h ∷ l ∷ rest)) ∙ ap (λ s. t ∷ h ∷ l ∷ s) (take-append-drop n rest));
      bytes = bytes_take n rest b.1.1.1;
      short = omega (arith, two_below (h ∷ l ∷ []) refl number);
    }

pub fronted : (bs : List ℕ) (f : Field) → Bytes bs → front_field bs ≡ Some f → Fronted bs f
unfolding front_field
fronted [] f b e = cc
fronted (t ∷ []) f b e = cc
fronted (t ∷ h ∷ []) f b e = cc
fronted (t ∷ h ∷ l ∷ rest) f b e =
    let n = from_be_bytes w16 (h ∷ l ∷ []) in
    let p = if_some (leb n (length rest)) (Some (t, take n rest)) f e in
    let is : ◌≡◌ {A = Field} (t, take n rest) f = cc p.1 in
    subst (Fronted (t ∷ h ∷ l ∷ rest)) is (cut_back t h l n rest b refl (leb-true n (length rest) p.0))

-- ---- what was taken from a field is written as that field

only_back : (v : List ℕ) (n : ℕ) → only_byte v ≡ Some n → v ≡ n ∷ []
only_back [] n h = cc
only_back (b ∷ []) n h = cc
only_back (b ∷ c ∷ v) n h = cc

pub version_field_is : (f : Field) (n : ℕ) → version_of f ≡ Some n → ◌≡◌ {A = Field} f (0, n ∷ [])
version_field_is f n h =
    let p = if_some (eqb f.0 0) (only_byte f.1) n h in
    λ i. (eqb-true f.0 0 p.0 i, only_back f.1 n p.1 i)

pub text_field_is : (f : Field) (s : List ℕ) → text_of f ≡ Some s → f ≡ text_field s
text_field_is f s h =
    let p = if_some (eqb f.0 1) (Some f.1) s h in
    let is : f.1 ≡ s = cc p.1 in
    λ i. (eqb-true f.0 1 p.0 i, is i)

-- a tag, and a length of the value
tagged : (t n : ℕ) (f : Field) → (eqb f.0 t && eqb (length f.1) n) ≡ true → (f.0 ≡ t) × (length f.1 ≡ n)
tagged t n f h =
    let p = and_parts (eqb f.0 t) (eqb (length f.1) n) h in
    (eqb-true f.0 t p.0, eqb-true (length f.1) n p.1)

-- what holds of both kinds of entry holds of the entry that was taken
entry_by : (P : Entry → Type 0) (f : Field) (e : Entry) → (f.0 ≡ 2 → length f.1 ≡ 2 → P (dir_of f.1)) → (f.0 ≡ 3 → length f.1 ≡ 18 → P (file_of f.1)) → entry_of f ≡ Some e → P e
entry_by P f e dir file h = go (eqb f.0 2 && eqb (length f.1) 2) refl h where
  go : (t : Bool) → (eqb f.0 2 && eqb (length f.1) 2) ≡ t → cond t (Some (dir_of f.1)) (cond (eqb f.0 3 && eqb (length f.1) 18) (Some (file_of f.1)) None) ≡ Some e → P e
  go true d h =
      let p = tagged 2 2 f d in
      let is : dir_of f.1 ≡ e = cc in
      subst P is (dir p.0 p.1)
  go false d h =
      let q = if_some (eqb f.0 3 && eqb (length f.1) 18) (Some (file_of f.1)) e h in
      let p = tagged 3 18 f q.0 in
      let is : file_of f.1 ≡ e = cc q.1 in
      subst P is (file p.0 p.1)

-- the three numbers of a file
module _ (v : List ℕ) (long : length v ≡ 18) (b : Bytes v) where
  mode_bytes : (length (take 2 v) ≡ 2) × Bytes (take 2 v)
  mode_bytes = (length-take-le 2 v (omega arith), bytes_take 2 v b)

  size_bytes : (length (take 8 (drop 2 v)) ≡ 8) × Bytes (take 8 (drop 2 v))
  size_bytes = (length-take-le 8 (drop 2 v) (omega (arith, length-drop 2 v)), bytes_take 8 (drop 2 v) (bytes_drop 2 v b))

  content_bytes : (length (drop 10 v) ≡ 8) × Bytes (drop 10 v)
  content_bytes = (omega (arith, length-drop 10 v), bytes_drop 10 v b)

  file_back : entry_field (file_of v) ≡ (3, v)
  file_back =
      let mode = two_back (take 2 v) mode_bytes.0 mode_bytes.1 in
      let size = eight_back (take 8 (drop 2 v)) size_bytes.0 size_bytes.1 in
      let content = eight_back (drop 10 v) content_bytes.0 content_bytes.1 in
      let numbers : take 8 (drop 2 v) ++ drop 10 v ≡ drop 2 v = ap (λ s. take 8 (drop 2 v) ++ s) (sym (drop-drop 8 2 v)) ∙ take-append-drop 8 (drop 2 v) in
      let all : take 2 v ++ (take 8 (drop 2 v) ++ drop 10 v) ≡ v = ap (λ s. take 2 v ++ s) numbers ∙ take-append-drop 2 v in
      ap (λ s. (3, s)) ((λ i. mode i ++ (size i ++ content i)) ∙ all)

pub entry_field_is : (f : Field) (e : Entry) → Bytes f.1 → entry_of f ≡ Some e → f ≡ entry_field e
entry_field_is f e b h = entry_by (λ e. f ≡ entry_field e) f e
    (λ t l. λ i. (t i, sym (two_back f.1 l b) i))
    (λ t l. (λ i. (t i, f.1)) ∙ sym (file_back f.1 l b))
    h

pub whiteout_field_is : (f : Field) → is_whiteout f ≡ true → f ≡ whiteout_field
whiteout_field_is f h =
    let p = tagged 5 0 f h in
    λ i. (p.0 i, nil_from_length f.1 p.1 i)

pub count_field_is : (f : Field) (n : ℕ) → Bytes f.1 → count_of f ≡ Some n → f ≡ count_field n
count_field_is f n b h =
    let p = if_some (eqb f.0 6 && eqb (length f.1) 2) (Some (from_be_bytes w16 f.1)) n h in
    let is : from_be_bytes w16 f.1 ≡ n = cc p.1 in
    let q = tagged 6 2 f p.0 in
    λ i. (q.0 i, (sym (two_back f.1 q.1 b) ∙ ap (to_be_bytes w16) is) i)
