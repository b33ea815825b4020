-- An entry that keywords give is in range. Assumes nothing.
use Rattle.std.proofs.Common.{◌≡◌, ℕ, ◌+◌, ◌*◌, ◌^◌, ◌<◌, ◌≤◌, Bool, true, false, cond, not, ◌&&◌, ◌||◌, eqb, ltb, leb, List, [], ◌∷◌, length, Some, None, Ok, Err, Option, sym, ap, ◌∙◌, subst, mul_assoc, mul-one, arith}
use native.Mathlib.Nat.{pow-zero, pow-succ'}
use Rattle.std.proofs.lemmas.Bool.{and_from, leb-true, eqb-true, le-leb, lt-ltb}
use Rattle.paths.specs.Names.{same, begins}
use Rattle.paths.specs.Steps.{and_then, and_then_some}
use Rattle.paths.proofs.Granted.{then_ok, then_some, if_ok, if_some}
use Rattle.trees.specs.declared.entry.Entry.{Entry}
use Rattle.trees.specs.declared.entry.Entry.TheVariants.{File, Dir}
use Rattle.trees.specs.Entries.{in_range}
use Rattle.words.specs.declared.fault.Cause.TheVariants.{Value}
use Rattle.mtree.specs.Numbers.{digit_value, numeral_from, numeral, mode_of, at_most, size_of, content_of}
use Rattle.mtree.specs.Lexed.{tail}
use Rattle.mtree.specs.Keywords.{type_name, mode_name, size_name, content_name, dir_word, file_word, expected, valued, number, no_more, dir_of, file_of, typed, entry_of}
use Rattle.mtree.proofs.Digits.{digit-below}

-- ---- a number that is read is small

module _ (base : ℕ) (step : (a m d : ℕ) → a < m → d < base → a * base + d < m * base) where
  numeral-below : (ds : List ℕ) (a m n : ℕ) → a < m → numeral_from base a ds ≡ Some n → n < m * base ^ length ds
  unfolding numeral_from
  numeral-below [] a m n l h =
      let is : a ≡ n = cc in
      let one = ap (λ k. m * k) (pow-zero base) ∙ mul-one m in
      subst (λ k. n < k) (sym one) (subst (λ k. k < m) is l)
  numeral-below (b ∷ ds) a m n l h =
      let p = then_some (digit_value base b) (λ d. numeral_from base (a * base + d) ds) n h in
      let next = step a m p.0 l (digit-below base b p.0 p.1) in
      let more = numeral-below ds (a * base + p.0) (m * base) n next p.2 in
      subst (λ k. n < k) (mul_assoc m base (base ^ length ds) ∙ ap (λ k. m * k) (sym (pow-succ' base (length ds)))) more

mode_small : (v : List ℕ) (n : ℕ) → mode_of v ≡ Some n → n ≤ 4095
mode_small v n h =
    let p = if_some (eqb (length v) 4) (numeral 8 v) n h in
    let l = numeral-below 8 (λ a m d x y. omega arith) v 0 1 n (omega arith) p.1 in
    let k : n < 1 * 8 ^ 4 = subst (λ j. n < 1 * 8 ^ j) (eqb-true (length v) 4 p.0) l in
    omega arith

content_small : (v : List ℕ) (n : ℕ) → content_of v ≡ Some n → n < 18446744073709551616
content_small v n h =
    let p = if_some (eqb (length v) 16) (numeral 16 v) n h in
    let l = numeral-below 16 (λ a m d x y. omega arith) v 0 1 n (omega arith) p.1 in
    let k : n < 1 * 16 ^ 16 = subst (λ j. n < 1 * 16 ^ j) (eqb-true (length v) 16 p.0) l in
    omega arith

size_small : (v : List ℕ) (n : ℕ) → size_of v ≡ Some n → n ≤ 1099511627776
size_small v n h =
    let p = if_some (leb 1 (length v) && (leb (length v) 13 && (not (begins (48 ∷ []) v) || eqb (length v) 1))) (and_then_some (numeral 10 v) (at_most 1099511627776)) n h in
    let q = then_some (numeral 10 v) (at_most 1099511627776) n p.1 in
    let r = if_some (leb q.0 1099511627776) (Some q.0) n q.2 in
    let l = leb-true q.0 1099511627776 r.0 in
    let is : q.0 ≡ n = cc r.1 in
    omega arith

valued-some : (o : Option ℕ) (n : ℕ) → valued o ≡ Ok n → o ≡ Some n
valued-some (Some m) n h =
    let is : m ≡ n = cc in
    ap Some is
valued-some None n h = cc

-- the text that a keyword's number is read from
number-from : (rule : List ℕ → Option ℕ) (name : List ℕ) (ks : List (List ℕ)) (n : ℕ) → number rule name ks ≡ Ok n → (v : List ℕ) × (rule v ≡ Some n)
number-from rule name ks n h =
    let p = then_ok (expected name ks) (λ v. valued (rule v)) n h in
    (p.0, valued-some (rule p.0) n p.2)

-- ---- an entry that is read is in range

last_is : (ks : List (List ℕ)) (d e : Entry) → no_more ks d ≡ Ok e → d ≡ e
last_is [] d e h = cc
last_is (k ∷ ks) d e h = cc

dir-ranged : (ks : List (List ℕ)) (e : Entry) → dir_of ks ≡ Ok e → in_range e ≡ true
dir-ranged ks e h =
    let p = then_ok (number mode_of mode_name ks) (λ m. no_more (tail ks) (Dir (record { mode = m }))) e h in
    let m = number-from mode_of mode_name ks p.0 p.1 in
    subst (λ z. in_range z ≡ true) (last_is (tail ks) (Dir (record { mode = p.0 })) e p.2) (le-leb p.0 4095 (mode_small m.0 p.0 m.1))

file-ranged : (ks : List (List ℕ)) (e : Entry) → file_of ks ≡ Ok e → in_range e ≡ true
file-ranged ks e h =
    let p = then_ok (number mode_of mode_name ks) (λ m. and_then (number size_of size_name (tail ks)) (λ s. and_then (number content_of content_name (tail (tail ks))) (λ c. no_more (tail (tail (tail ks))) (File (record { mode = m; size = s; content = c }))))) e h in
    let q = then_ok (number size_of size_name (tail ks)) (λ s. and_then (number content_of content_name (tail (tail ks))) (λ c. no_more (tail (tail (tail ks))) (File (record { mode = p.0; size = s; content = c })))) e p.2 in
    let r = then_ok (number content_of content_name (tail (tail ks))) (λ c. no_more (tail (tail (tail ks))) (File (record { mode = p.0; size = q.0; content = c }))) e q.2 in
    let m = number-from mode_of mode_name ks p.0 p.1 in
    let s = number-from size_of size_name (tail ks) q.0 q.1 in
    let c = number-from content_of content_name (tail (tail ks)) r.0 r.1 in
    let x = le-leb p.0 4095 (mode_small m.0 p.0 m.1) in
    let y = le-leb q.0 1099511627776 (size_small s.0 q.0 s.1) in
    let z = lt-ltb r.0 18446744073709551616 (content_small c.0 r.0 c.1) in
    let three = and_from (leb p.0 4095) (leb q.0 1099511627776 && ltb r.0 18446744073709551616) x (and_from (leb q.0 1099511627776) (ltb r.0 18446744073709551616) y z) in
    subst (λ v. in_range v ≡ true) (last_is (tail (tail (tail ks))) (File (record { mode = p.0; size = q.0; content = r.0 })) e r.2) three

typed-ranged : (v : List ℕ) (ks : List (List ℕ)) (e : Entry) → typed v ks ≡ Ok e → in_range e ≡ true
typed-ranged v ks e h = go (same dir_word v) h where
  go : (t : Bool) → cond t (dir_of ks) (cond (same file_word v) (file_of ks) (Err Value)) ≡ Ok e → in_range e ≡ true
  go true h = dir-ranged ks e h
  go false h = file-ranged ks e (if_ok (same file_word v) (file_of ks) Value e h).1

pub entry_ranged : (ks : List (List ℕ)) (e : Entry) → entry_of ks ≡ Ok e → in_range e ≡ true
entry_ranged ks e h =
    let p = then_ok (expected type_name ks) (λ v. typed v (tail ks)) e h in
    typed-ranged p.0 (tail ks) e p.2
