-- The rows of a table, when it is edited. Assumes nothing.
use Rattle.std.proofs.Common.{◌≡◌, ℕ, ◌+◌, ◌-◌, ◌≤◌, Bool, true, List, ◌++◌, length, take, drop, set, slice_range, Decides, Result, Ok, Err, sym, refl, ap, ◌∙◌, arith, rules}
use mathlib.Core.List.{map-append}
use Rattle.std.proofs.lemmas.List.{same_lists, places, map-set, length-map, length-set, length-append, length-take, length-drop, take-map, drop-map, take-append-drop}
use Rattle.std.proofs.lemmas.Bool.{true≢false}
use Rattle.std.proofs.lemmas.Bool.Decides.{same_from_decides}
use Rattle.std.specs.Result.{IsOk, OnOk}
use Rattle.std.specs.List.{refill}
use Rattle.arrayvec.proofs.ArrayVecLemmas.{items-with_items}
use Rattle.paths.specs.declared.Path.{Path}
use Rattle.paths.specs.Names.{Under}
use Rattle.paths.specs.Paths.{names}
use Rattle.rows.specs.declared.row.Row.{Row}
use Rattle.rows.specs.Maps.{Names, under, ascending, replaced, without}
use Rattle.rows.specs.Rows.{row_of, rows_of}
use Rattle.rows.specs.Positions.{Here}
use Rattle.rows.specs.Tables.{spliced, Spliced}
use Rattle.rows.proofs.Leads.{set_lead}
use Rattle.rows.proofs.Changed.{under-says}

-- new elements at their place, those from there on behind them
moved_in : {R : Type 0} (xs new all : List R) (at : ℕ) → all ≡ xs ++ new → at ≤ length xs → take at all ++ (new ++ slice_range all at (length all - length new)) ≡ take at xs ++ (new ++ drop at xs)
moved_in xs new all at is le = rw is (same_lists _ _ (search (rules, places)) (λ k d h. grind (arith, places)))

-- what a test of prefixes answers
pub is_under : (p q : Names) (r : Bool) → Decides r (Under p q) → r ≡ under p q
is_under p q r d = same_from_decides r (under p q) d (under-says p q)

-- what is written through the slice stays
written : {R : Type 0} (xs ys zs : List R) → ys ≡ zs → length zs ≡ length xs → refill (length xs) xs ys ≡ zs
written xs ys zs e n = ap (refill (length xs) xs) e ∙ items-with_items (record { items = xs }) zs n

-- a call that is no `Err`
pub went_well : {T E P : Type 0} (r : Result T E) → IsOk r → OnOk r P → P
went_well (Ok x) h p = p
went_well (Err e) h p = absurd (true≢false (sym h))

module _ {V : Type 0} where
  pub same_length : (rs xs : List (Row V)) → rows_of rs ≡ rows_of xs → length rs ≡ length xs
  same_length rs xs e = sym (length-map rs row_of) ∙ ap length e ∙ length-map xs row_of

  -- the rows that were asked stand for those of the table
  pub here_in : (rs xs : List (Row V)) → rows_of rs ≡ rows_of xs → (p : Names) (i : ℕ) → Here rs p i → Here xs p i
  here_in rs xs e p i here = let n = same_length rs xs e in record { value = rw (← e) here.value; within = omega arith; there = rw (← e) here.there }

  pub spliced_in : (rs xs new : List (Row V)) → rows_of rs ≡ rows_of xs → (at : ℕ) → Spliced rs new at → Spliced xs new at
  spliced_in rs xs new e at place =
      let n = same_length rs xs e in
      record {
        rows = rw (← e) place.rows ∙ placed rs ∙ ap (λ ys. take at ys ++ (rows_of new ++ drop at ys)) e ∙ sym (placed xs);
        rises = rw (← e) place.rises;
        within = omega arith;
      } where
        placed : (rs : List (Row V)) → rows_of (take at rs ++ (new ++ drop at rs)) ≡ take at (rows_of rs) ++ (rows_of new ++ drop at (rows_of rs))
        placed rs = simp (map-append, take-map, drop-map)

  -- the row at p gets the value v, written through the slice
  module _ (xs shown : List (Row V)) (p : Path) (v : V) (i : ℕ) (same : shown ≡ xs) where
    abbrev one : Row V
    one = record { path = p; value = v }

    set_in : refill (length xs) xs (set shown i one) ≡ set xs i one
    set_in = written xs (set shown i one) (set xs i one) (ap (λ ys. set ys i one) same) (length-set xs i one)

    pub length-set_in : length (refill (length xs) xs (set shown i one)) ≡ length xs
    length-set_in = ap length set_in ∙ length-set xs i one

    pub listed_set : ascending (rows_of xs) ≡ true → Here xs (names p) i → rows_of (refill (length xs) xs (set shown i one)) ≡ replaced (rows_of xs) (names p) v
    listed_set up here =
        ap rows_of set_in ∙ map-set row_of xs i one ∙ ap (λ k. set (rows_of xs) k (names p, v)) here.value ∙ set_lead (rows_of xs) up (names p) v here.there

  -- the new rows are appended, and then moved to their place among the rows that were asked
  module _ (rs xs new all shown moved : List (Row V)) (at : ℕ) (asked : rows_of rs ≡ rows_of xs) (found : Spliced rs new at) (is : all ≡ xs ++ new) (same : shown ≡ all) (to : moved ≡ take at shown ++ (new ++ slice_range shown at (length shown - length new))) where
    place : Spliced xs new at
    place = spliced_in rs xs new asked at found

    inserted : refill (length all) all moved ≡ take at xs ++ (new ++ drop at xs)
    inserted = let le : at ≤ length xs = place.within in written all moved (take at xs ++ (new ++ drop at xs)) (to ∙ moved_in xs new shown at (same ∙ is) le) (simp (is, length-append, length-take, length-drop) (omega arith))

    pub length-inserted : length (refill (length all) all moved) ≡ length xs + length new
    length-inserted = let le : at ≤ length xs = place.within in ap length inserted ∙ simp (length-append, length-take, length-drop) (omega arith)

    pub listed_inserted : rows_of (refill (length all) all moved) ≡ spliced (rows_of new) (rows_of xs)
    listed_inserted = ap rows_of inserted ∙ sym place.rows

    pub rises-inserted : ascending (rows_of (refill (length all) all moved)) ≡ true
    rises-inserted = ap ascending listed_inserted ∙ place.rises

  parts : (start end : ℕ) (rs : List (Row V)) → rows_of (take start rs ++ drop end rs) ≡ take start (rows_of rs) ++ drop end (rows_of rs)
  parts start end rs = simp (map-append, take-map, drop-map)

  -- no row is under a path
  pub nothing_out : (rs xs : List (Row V)) (p : Names) (start end : ℕ) → rows_of rs ≡ rows_of xs → without p (rows_of rs) ≡ rows_of (take start rs ++ drop end rs) → start ≡ end → rows_of xs ≡ without p (rows_of xs)
  nothing_out rs xs p start end asked is e =
      sym asked ∙ ap rows_of (sym (take-append-drop start rs) ∙ ap (λ k. take start rs ++ drop k rs) e) ∙ sym is ∙ ap (without p) asked

  -- the rows under a path are taken out: those behind are moved to their place, and the last are cut off
  module _ (rs xs shown moved kept : List (Row V)) (p : Names) (start end left : ℕ) (asked : rows_of rs ≡ rows_of xs) (is : without p (rows_of rs) ≡ rows_of (take start rs ++ drop end rs)) (same : shown ≡ xs) (long : length moved ≡ length shown) (front : take (length shown - (end - start)) moved ≡ take start shown ++ drop end shown) (less : left ≡ length xs - (end - start)) (cut : kept ≡ take left (refill (length xs) xs moved)) where
    out : kept ≡ take start xs ++ drop end xs
    out =
        cut ∙ ap (take left) (written xs moved moved refl (long ∙ ap length same))
        ∙ ap (λ k. take k moved) (less ∙ ap (λ ys. length ys - (end - start)) (sym same))
        ∙ front ∙ ap (λ ys. take start ys ++ drop end ys) same

    pub listed_out : rows_of kept ≡ without p (rows_of xs)
    listed_out =
        ap rows_of out ∙ parts start end xs ∙ ap (λ ys. take start ys ++ drop end ys) (sym asked) ∙ sym (parts start end rs) ∙ sym is ∙ ap (without p) asked
