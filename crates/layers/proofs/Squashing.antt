-- A squash, one row of the lower layer after the other. Assumes nothing.
use Rattle.std.proofs.Common.{◌≡◌, ℕ, ◌+◌, ◌<◌, ◌≤◌, Bool, true, false, cond, ◌||◌, ltb, leb, List, [], ◌∷◌, ◌++◌, length, take, drop, get_or, is_some, Some, None, Option, sym, refl, ap, ◌∙◌, subst, ⊎_elim, append-nil, arith}
use mathlib.Core.List.{map-append}
use Rattle.std.proofs.lemmas.List.{take-append-drop, take-map, take_more}
use Rattle.std.proofs.lemmas.Bool.{true≢false, and_from, or_parts, cond-true, cond-false, le-leb}
use Rattle.rows.specs.declared.row.Row.{Row}
use Rattle.rows.specs.Rows.{row_of, rows_of}
use Rattle.rows.specs.Tables.{spliced, splices}
use Rattle.rows.specs.Maps.{Names, at, has, ascending}
use Rattle.rows.specs.Builds.{same, set_at}
use Rattle.rows.proofs.Built.{told, at_set, ascending_set, same_rows}
use Rattle.rows.proofs.Changed.{at-append, at-last}
use Rattle.rows.proofs.Risen.{ascends-left}
use Rattle.rows.proofs.Sets.{length_set}
use Rattle.marks.specs.declared.mark.Mark.{Mark}
use Rattle.marks.specs.Marks.{MarkRow, cut, unless, layered}
use Rattle.marks.specs.Squash.{over, squashed}
use Rattle.marks.proofs.Counts.{length_has}
use Rattle.marks.proofs.Squashes.{at-squashed, ascending-squashed, layered-squashed, squashed-empty, over-there}
use Rattle.std.specs.Option.{option_or}

-- the next of the rows in memory
pub next_row : (items : List (Row Mark)) (i : ℕ) (x : Row Mark) → i < length items → x ≡ get_or items i x → (l : List MarkRow) → rows_of items ≡ l → take (i + 1) l ≡ take i l ++ row_of x ∷ []
next_row items i x lt is l e = subst (λ z. take (i + 1) z ≡ take i z ++ row_of x ∷ []) e go where
  step : take (i + 1) items ≡ take i items ++ x ∷ []
  step = take_more items i x lt ∙ ap (λ z. take i items ++ z ∷ []) (sym is)

  go : take (i + 1) (rows_of items) ≡ take i (rows_of items) ++ row_of x ∷ []
  go = take-map row_of (i + 1) items ∙ ap rows_of step ∙ map-append row_of (take i items) (x ∷ []) ∙ ap (λ z. z ++ row_of x ∷ []) (sym (take-map row_of i items))

-- rows put into a table that has none
spliced_alone : (new : List MarkRow) → spliced new [] ≡ new
spliced_alone [] = refl
spliced_alone (n ∷ new) = append-nil (n ∷ new)

pub copied : (u new none rows : List MarkRow) (ok : Bool) → ascending u ≡ true → length u ≤ 192 → new ≡ u → none ≡ [] → ok ≡ splices 192 new none → rows ≡ cond ok (spliced new none) none → rows ≡ squashed u []
copied u new none rows ok up few is nil answer put =
    put
    ∙ cond-true ok (spliced new none) none (answer ∙ ap (λ z. splices 192 z none) is ∙ ap (splices 192 u) nil ∙ fits)
    ∙ ap (λ z. spliced z none) is
    ∙ ap (spliced u) nil
    ∙ spliced_alone u
    ∙ sym (squashed-empty u up) where
      fits : splices 192 u [] ≡ true
      fits = and_from (leb (0 + length u) 192) (ascending (spliced u [])) (le-leb (0 + length u) 192 (omega arith)) (ap ascending (spliced_alone u) ∙ up)

module _ (u : List MarkRow) where
  -- the mark of the squash at a lower row
  abbrev mark_over : MarkRow → Option Mark
  mark_over r = over (at u r.0) (unless (cut (at u) r.0) (Some r.1))

  -- one lower row more, behind the others
  squashed-last : (done : List MarkRow) (r : MarkRow) → ascending (done ++ r ∷ []) ≡ true → squashed u (done ++ r ∷ []) ≡ set_at (squashed u done) r.0 (mark_over r)
  squashed-last done r up =
      same_rows (squashed u (done ++ r ∷ [])) (set_at (squashed u done) r.0 (mark_over r)) (ascending-squashed u (done ++ r ∷ []) up)
      (ascending_set (squashed u done) r.0 (mark_over r) (ascending-squashed u done (ascends-left done (r ∷ []) up)))
      (λ q. at-squashed u (done ++ r ∷ []) q
      ∙ ap (λ o. over (at u q) (unless (cut (at u) q) o)) (at-last done r q up)
      ∙ ⊎_elim
      (λ y. ap (λ t. over (at u q) (unless (cut (at u) q) (cond t (Some r.1) (at done q)))) y.1 ∙ ap (λ z. mark_over (z, r.1)) y.0 ∙ sym (cond-true (same q r.0) (mark_over r) (at (squashed u done) q) y.1))
      (λ n. ap (λ t. over (at u q) (unless (cut (at u) q) (cond t (Some r.1) (at done q)))) n ∙ sym (at-squashed u done q) ∙ sym (cond-false (same q r.0) (mark_over r) (at (squashed u done) q) n))
      (told q r.0)
      ∙ sym (at_set (squashed u done) r.0 (mark_over r) q))

  -- a lower row that comes to nothing stands at a path where the squash has none
  nothing-there : (x : Option Mark) (c : Bool) (y : Option Mark) (v : Mark) → over x (unless c (Some v)) ≡ None → over x (unless c y) ≡ None
  nothing-there None true y v h = refl
  nothing-there None false y v h = absurd (true≢false (ap is_some h))
  nothing-there (Some x) c y v h = absurd (true≢false (sym (over-there (Some x) (unless c (Some v)) refl) ∙ ap is_some h))

  set_nothing : (done : List MarkRow) (r : MarkRow) → ascending done ≡ true → mark_over r ≡ None → set_at (squashed u done) r.0 None ≡ squashed u done
  set_nothing done r up h =
      let a = ascending-squashed u done up in
      same_rows (set_at (squashed u done) r.0 None) (squashed u done) (ascending_set (squashed u done) r.0 None a) a
      (λ q. at_set (squashed u done) r.0 None q
      ∙ ⊎_elim
      (λ y. cond-true (same q r.0) None (at (squashed u done) q) y.1 ∙ sym (ap (at (squashed u done)) y.0 ∙ at-squashed u done r.0 ∙ nothing-there (at u r.0) (cut (at u) r.0) (at done r.0) r.1 h))
      (λ n. cond-false (same q r.0) None (at (squashed u done) q) n)
      (told q r.0))

  more-there : (x : Option Mark) (c : Bool) (y z : Option Mark) → (is_some y ≡ true → is_some z ≡ true) → is_some (over x (unless c y)) ≡ true → is_some (over x (unless c z)) ≡ true
  more-there None true y z f h = h
  more-there None false y z f h = f h
  more-there (Some x) c y z f h = over-there (Some x) (unless c z) refl

  module _ (l : List MarkRow) (up : ascending l ≡ true) where
    part : (i : ℕ) → ascending (take i l) ≡ true
    part i = ascends-left (take i l) (drop i l) (ap ascending (take-append-drop i l) ∙ up)

    in_all : (i : ℕ) (q : Names) → has (take i l) q ≡ true → has l q ≡ true
    in_all i q h = ap (λ z. has z q) (sym (take-append-drop i l)) ∙ ap is_some (at-append (take i l) (drop i l) q) ∙ go (at (take i l) q) h where
      go : (o : Option Mark) → is_some o ≡ true → is_some (option_or o (at (drop i l) q)) ≡ true
      go None k = absurd (true≢false (sym k))
      go (Some x) k = refl

    -- with some of the lower rows it has at most as many rows
    fewer : (i : ℕ) → length (squashed u (take i l)) ≤ length (squashed u l)
    fewer i =
        length_has (squashed u l) (squashed u (take i l)) (ascending-squashed u l up) (ascending-squashed u (take i l) (part i))
        (λ q h. ap is_some (at-squashed u l q) ∙ more-there (at u q) (cut (at u) q) (at (take i l) q) (at l q) (in_all i q) (sym (ap is_some (at-squashed u (take i l) q)) ∙ h))

    module _ (i : ℕ) (r : MarkRow) (next : take (i + 1) l ≡ take i l ++ r ∷ []) (rows : List MarkRow) (is : rows ≡ squashed u (take i l)) where
      whole : squashed u (take (i + 1) l) ≡ set_at rows r.0 (mark_over r)
      whole =
          ap (squashed u) next
          ∙ squashed-last (take i l) r (sym (ap ascending next) ∙ part (i + 1))
          ∙ ap (λ z. set_at z r.0 (mark_over r)) (sym is)

      -- the row comes to nothing
      pub passed_by : None ≡ mark_over r → rows ≡ squashed u (take (i + 1) l)
      passed_by none = is ∙ sym (set_nothing (take i l) r (part i) (sym none)) ∙ sym (whole ∙ ap (set_at rows r.0) (sym none) ∙ ap (λ z. set_at z r.0 None) is)

      -- its mark is set
      pub taken_in : (x : Mark) → Some x ≡ mark_over r → set_at rows r.0 (Some x) ≡ squashed u (take (i + 1) l)
      taken_in x some = sym (whole ∙ ap (set_at rows r.0) (sym some))

      -- it has no room
      pub too_many : (x : Mark) → Some x ≡ mark_over r → (ok : Bool) → ok ≡ (has rows r.0 || ltb (length rows) 192) → ok ≡ false → 192 < length (squashed u l)
      too_many x some ok answer full =
          let d = or_parts (has rows r.0) (ltb (length rows) 192) (sym answer ∙ full) in
          let n = length_set rows r.0 x (ap ascending is ∙ ascending-squashed u (take i l) (part i)) in
          let one : ◌≡◌ {A = ℕ} (cond (has rows r.0) 0 1) 1 = cond-false (has rows r.0) 0 1 d.0 in
          let f = fewer (i + 1) in
          let w = ap length (taken_in x some) in
          let many = d.1 in
          grind arith

-- the rows of a squash make a layer
pub squash_grows : (u l : List MarkRow) (rows : List MarkRow) → rows ≡ squashed u l → layered u ≡ true → layered l ≡ true → layered rows ≡ true
squash_grows u l rows is a b = ap layered is ∙ layered-squashed u l a b
