-- A field that is written reads back, and says what it is. Assumes nothing.
use Rattle.std.proofs.Common.{◌≡◌, ℕ, ◌<◌, ◌≤◌, true, leb, List, ◌++◌, length, take, drop, Some, None, sym, ap, ◌∙◌, arith}
use Rattle.std.proofs.lemmas.List.{length-append, take_at, drop_at}
use Rattle.std.proofs.lemmas.Bool.{and_parts, cond-true, le-leb, leb-true, ltb-true}
use Rattle.std.proofs.lemmas.Nat.{from_be_bytes-to_be_bytes_2, from_be_bytes-to_be_bytes_8}
use Rattle.std.specs.Int.{w16, to_be_bytes, from_be_bytes}
use Rattle.trees.specs.declared.entry.Entry.{Entry}
use Rattle.trees.specs.declared.entry.Entry.TheVariants.{File, Dir}
use Rattle.trees.specs.Entries.{in_range}
use Rattle.layer_fields.specs.Fields.{Field, field_bytes, span, cut_field, front_field}
use Rattle.layer_fields.specs.Said.{entry_of, entry_field, count_of, count_field}

-- ---- a field at the front

cut-back : (f : Field) (n : ℕ) (rest : List ℕ) → n ≡ length f.1 → cut_field f.0 n (f.1 ++ rest) ≡ Some f
cut-back f n rest e =
    let fits : n ≤ length (f.1 ++ rest) = omega (arith, length-append f.1 rest) in
    cond-true (leb n (length (f.1 ++ rest))) (Some (f.0, take n (f.1 ++ rest))) None (le-leb n (length (f.1 ++ rest)) fits)
    ∙ ap (λ v. Some (f.0, v)) (take_at f.1 rest n (sym e))

pub front-back : (f : Field) (rest : List ℕ) → length f.1 < 65536 → front_field (field_bytes f ++ rest) ≡ Some f
unfolding front_field
front-back f rest h =
    cut-back f (from_be_bytes w16 (to_be_bytes w16 (length f.1))) rest (from_be_bytes-to_be_bytes_2 (length f.1) (omega arith))

-- how long a field is
span-length : (f : Field) → length (field_bytes f) ≡ span f
span-length f = omega arith

-- what stands behind it
pub behind-field : (f : Field) (rest : List ℕ) → drop (span f) (field_bytes f ++ rest) ≡ rest
behind-field f rest = drop_at (field_bytes f) rest (span f) (span-length f)

-- ---- what a field says

pub count-back : (n : ℕ) → n < 65536 → count_of (count_field n) ≡ Some n
count-back n h = ap Some (from_be_bytes-to_be_bytes_2 n (omega arith))

pub entry-back : (e : Entry) → in_range e ≡ true → entry_of (entry_field e) ≡ Some e
entry-back (Dir d) h =
    let m = leb-true d.mode 4095 h in
    ap (λ n. Some (Dir (record { mode = n }))) (from_be_bytes-to_be_bytes_2 d.mode (omega arith))
entry-back (File f) h =
    let p = and_parts (leb f.mode 4095) _ h in
    let q = and_parts (leb f.size 1099511627776) _ p.1 in
    let m = from_be_bytes-to_be_bytes_2 f.mode (omega (arith, leb-true f.mode 4095 p.0)) in
    let s = from_be_bytes-to_be_bytes_8 f.size (omega (arith, leb-true f.size 1099511627776 q.0)) in
    let c = from_be_bytes-to_be_bytes_8 f.content (omega (arith, ltb-true f.content 18446744073709551616 q.1)) in
    λ i. Some (File (record { mode = m i; size = s i; content = c i }))

-- fewer than 65,536 bytes
pub entry-short : (e : Entry) → length (entry_field e).1 ≤ 18
entry-short (Dir d) = omega arith
entry-short (File f) = omega arith
