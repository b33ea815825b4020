-- The rows that a copy-up adds, put among those that are there. Assumes nothing.
use Rattle.std.proofs.Common.{◌≡◌, ℕ, ◌+◌, ◌≤◌, Bool, true, false, cond, leb, List, [], ◌∷◌, ◌++◌, map, length, is_some, Some, None, Option, sym, refl, ap, ◌∙◌, subst, inl, inr, ⊎_elim, append_assoc, length-append, arith}
use Rattle.std.proofs.lemmas.Bool.{true≢false, and_from, cond-true, cond-false, le-leb, cases_Bool}
use Rattle.std.specs.List.{AllByRecursion as All}
use Rattle.std.specs.Option.{option_map, option_or}
use Rattle.paths.specs.Names.{prefixes}
use Rattle.rows.specs.Maps.{Names, at, has, ascending, under, replaced}
use Rattle.rows.specs.Builds.{same, row, build}
use Rattle.rows.specs.Positions.{lead}
use Rattle.rows.specs.Tables.{spliced, splices}
use Rattle.rows.proofs.Firsts.{In, holds_at, in-there, prefix_there, head_least}
use Rattle.rows.proofs.Built.{at-built, ascending-build, same_rows, same_path}
use Rattle.rows.proofs.Unders.{under_goes, under-itself, under_rest, among-prefixes, comparable, same_swap, not_over}
use Rattle.rows.proofs.Changed.{at-replaced, ascending-replaced, at-spliced, length-spliced}
use Rattle.rows.proofs.Ranges.{under_late}
use Rattle.rows.proofs.Inserts.{spliced-rises}
use Rattle.rows.proofs.Lasts.{rises_front, spliced_last}
use Rattle.trees.specs.declared.entry.Entry.{Entry}
use Rattle.trees.specs.Entries.{Row}
use Rattle.trees.proofs.Grown.{grown-rooted}
use Rattle.marks.specs.declared.mark.Mark.{Mark}
use Rattle.marks.specs.Marks.{MarkRow, marks_dir, ranged, merged, layered}
use Rattle.marks.specs.Edits.{lifted, write_at, written, lacks, ProperDirs}
use Rattle.marks.proofs.Counts.{ascends-prefixes}
use Rattle.marks.proofs.Grows.{marks_dir-there}
use Rattle.marks.proofs.Merges.{layer_parts}
use Rattle.marks.proofs.Noted.{length-written}
use Rattle.marks.proofs.Writes.{at-written, ascending-written}
use Rattle.sessions.specs.Copies.{fresh_mark, fresh_rows}

none_fresh : (x : Mark) (o : Option Mark) (v : Option Entry) (s u : Bool) → s ≡ false → u ≡ false → cond (is_some o) None (cond s (Some x) (cond u (lifted o v) o)) ≡ None
none_fresh x None v true u a b = absurd (true≢false a)
none_fresh x None v false true a b = absurd (true≢false b)
none_fresh x None v false false a b = refl
none_fresh x (Some y) v s u a b = refl

or-none : {V : Type 0} (o : Option V) → option_or o None ≡ o
or-none None = refl
or-none (Some v) = refl

or_fresh : (x : Mark) (o : Option Mark) (v : Option Entry) (s u : Bool) → (s ≡ true → is_some o ≡ false) → option_or (cond (is_some o) None (cond s (Some x) (cond u (lifted o v) o))) o ≡ cond s (Some x) (cond u (lifted o v) o)
or_fresh x None v s u h = or-none (cond s (Some x) (cond u (lifted None v) None))
or_fresh x (Some y) v true u h = absurd (true≢false (h refl))
or_fresh x (Some y) v false true h = refl
or_fresh x (Some y) v false false h = refl

module _ (x : Mark) (m : List MarkRow) (e : List Row) (p : Names) (lm : layered m ≡ true) where
  at_fresh : (q : Names) → at (fresh_rows x m e p) q ≡ fresh_mark x m e p q
  at_fresh q =
      at-built (fresh_mark x m e p) (prefixes p) q
      (λ h. let u = sym (among-prefixes p q) ∙ h in none_fresh x (at m q) (at (merged m e) q) (same q p) (under q p) (not_over q p u) u)

  ascending_fresh : ascending (fresh_rows x m e p) ≡ true
  ascending_fresh = ascending-build (fresh_mark x m e p) (prefixes p) (ascends-prefixes p)

  -- a new row stands at a prefix that had none
  fresh_one : (r : MarkRow) → In (fresh_rows x m e p) r → (has m r.0 ≡ false) × (under r.0 p ≡ true)
  fresh_one r i = go (has m r.0) (under r.0 p) refl refl (sym (at_fresh r.0) ∙ holds_at (fresh_rows x m e p) ascending_fresh r.0 r.1 i) where
    some : {P : Type 0} → ◌≡◌ {A = Option Mark} None (Some r.1) → P
    some f = absurd (true≢false (sym (ap is_some f)))

    go : (t u : Bool) → has m r.0 ≡ t → under r.0 p ≡ u → cond t None (write_at x (at m) (at (merged m e)) p r.0) ≡ Some r.1 → (has m r.0 ≡ false) × (under r.0 p ≡ true)
    go true u a b f = some f
    go false true a b f = (a, b)
    go false false a b f = some (sym (none_fresh x (at m r.0) (at (merged m e) r.0) (same r.0 p) (under r.0 p) (not_over r.0 p b) b) ∙ (cond-false (has m r.0) None (write_at x (at m) (at (merged m e)) p r.0) a ∙ f))

  -- so they can be put among the rows
  rises_fresh : ascending (spliced (fresh_rows x m e p) m) ≡ true
  rises_fresh = go (fresh_rows x m e p) ascending_fresh fresh_one where
    up : ascending m ≡ true
    up = (layer_parts m lm).0

    go : (rs : List MarkRow) → ascending rs ≡ true → ((r : MarkRow) → In rs r → (has m r.0 ≡ false) × (under r.0 p ≡ true)) → ascending (spliced rs m) ≡ true
    go [] rise f = up
    go (n ∷ new) rise f = spliced-rises n new m up rise below apart where
      below : (r : MarkRow) → In (n ∷ new) r → under n.0 r.0 ≡ true
      below r i = ⊎_elim (λ s. ap (λ z. under n.0 z.0) s ∙ under-itself n.0) later i where
        later : In new r → under n.0 r.0 ≡ true
        later j = ⊎_elim (λ u. u) (λ u. absurd (true≢false (sym (head_least n new rise r j) ∙ under_late r.0 n.0 u))) (comparable n.0 r.0 p (f n (inl refl)).1 (f r (inr j)).1)

      apart : (y : MarkRow) → In m y → under n.0 y.0 ≡ false
      apart y i = by (under n.0 y.0) refl where
        by : (t : Bool) → under n.0 y.0 ≡ t → under n.0 y.0 ≡ false
        by true u =
            let d = under_rest n.0 y.0 u in
            absurd (true≢false (sym (prefix_there m (grown-rooted ranged marks_dir marks_dir-there m m (layer_parts m lm).1) d.0 n.0 (subst (λ z. has m z ≡ true) d.1 (in-there m up y i))) ∙ (f n (inl refl)).0))
        by false u = u

  spliced_fresh : has m p ≡ false → spliced (fresh_rows x m e p) m ≡ written x m e p
  spliced_fresh h =
      same_rows (spliced (fresh_rows x m e p) m) (written x m e p) rises_fresh (ascending-written x m e p (layer_parts m lm).0)
      (λ q. at-spliced (fresh_rows x m e p) m q rises_fresh
      ∙ ap (λ o. option_or o (at m q)) (at_fresh q)
      ∙ or_fresh x (at m q) (at (merged m e) q) (same q p) (under q p) (λ s. ap (has m) (same_path q p s) ∙ h)
      ∙ sym (at-written x m e p q))

  -- a path that has a row has one at each prefix
  prefix_row : (q : Names) → under q p ≡ true → has m p ≡ true → is_some (at m q) ≡ true
  prefix_row q u h = let d = under_rest q p u in prefix_there m (grown-rooted ranged marks_dir marks_dir-there m m (layer_parts m lm).1) d.0 q (subst (λ z. has m z ≡ true) d.1 h)

  kept_fresh : (o : Option Mark) (v : Option Entry) (s u : Bool) → (s ≡ true → is_some o ≡ true) → (u ≡ true → is_some o ≡ true) → cond s (option_map (λ _. x) o) o ≡ cond s (Some x) (cond u (lifted o v) o)
  kept_fresh None v true u h k = absurd (true≢false (sym (h refl)))
  kept_fresh None v false true h k = absurd (true≢false (sym (k refl)))
  kept_fresh None v false false h k = refl
  kept_fresh (Some y) v true u h k = refl
  kept_fresh (Some y) v false true h k = refl
  kept_fresh (Some y) v false false h k = refl

  replaced-written : has m p ≡ true → replaced m p x ≡ written x m e p
  replaced-written h =
      same_rows (replaced m p x) (written x m e p) (ascending-replaced p x m ∙ (layer_parts m lm).0) (ascending-written x m e p (layer_parts m lm).0)
      (λ q. at-replaced p x m q
      ∙ ap (λ t. cond t (option_map (λ _. x) (at m q)) (at m q)) (same_swap p q)
      ∙ kept_fresh (at m q) (at (merged m e) q) (same q p) (under q p) (λ s. ap (has m) (same_path q p s) ∙ h) (λ u. prefix_row q u h)
      ∙ sym (at-written x m e p q))

  put_result : ProperDirs (merged m e) p → length m + lacks m p ≤ 192 → cond (has m p) (replaced m p x) (cond (splices 192 (fresh_rows x m e p) m) (spliced (fresh_rows x m e p) m) m) ≡ written x m e p
  put_result dirs room = ⊎_elim
      (λ h. cond-true (has m p) (replaced m p x) _ h ∙ replaced-written h)
      (λ h. cond-false (has m p) (replaced m p x) _ h ∙ cond-true (splices 192 (fresh_rows x m e p) m) (spliced (fresh_rows x m e p) m) m (fits h) ∙ spliced_fresh h)
      (cases_Bool (has m p)) where
        fits : has m p ≡ false → splices 192 (fresh_rows x m e p) m ≡ true
        fits h =
            let l : length m + length (fresh_rows x m e p) ≤ 192 = omega (arith, room, length-spliced (fresh_rows x m e p) m, ap length (spliced_fresh h), length-written x m e p (layer_parts m lm).0 dirs) in
            and_from (leb (length m + length (fresh_rows x m e p)) 192) (ascending (spliced (fresh_rows x m e p) m)) (le-leb (length m + length (fresh_rows x m e p)) 192 l) rises_fresh

  -- what `put_rows` leaves
  pub put_done : ProperDirs (merged m e) p → length m + lacks m p ≤ 192 → (new after : List MarkRow) → new ≡ fresh_rows x m e p → after ≡ cond (has m p) (replaced m p x) (cond (splices 192 new m) (spliced new m) m) → after ≡ written x m e p
  put_done dirs room new after f h = h ∙ ap (λ z. cond (has m p) (replaced m p x) (cond (splices 192 z m) (spliced z m) m)) f ∙ put_result dirs room

-- ---- the new rows, one prefix after the other

-- a prefix of a path has one name more below
under_more : (n : List ℕ) (q p : Names) → under q p ≡ true → under (n ∷ q) (n ∷ p) ≡ true
under_more n q p u = let d = under_rest q p u in subst (λ z. under (n ∷ q) (n ∷ z) ≡ true) (sym d.1) (under_goes (n ∷ q) d.0)

-- each prefix has the path below it
all_under : (p : Names) → All (λ q. under q p ≡ true) (prefixes p)
all_under [] = (refl, tt)
all_under (n ∷ p) = (refl, go (prefixes p) (all_under p)) where
  go : (qs : List Names) → All (λ q. under q p ≡ true) qs → All (λ q. under q (n ∷ p) ≡ true) (map (λ q. n ∷ q) qs)
  go [] h = tt
  go (q ∷ qs) h = (under_more n q p h.0, go qs h.1)

-- some rows are made, those of the prefixes that are left are not
pub record Filled (x : Mark) (m : List MarkRow) (e : List Row) (p : Names) (left : List Names) (rows : List MarkRow) : Type 0 where
  pub few : length rows + length left ≤ 9
  pub whole : rows ++ build (fresh_mark x m e p) left ≡ fresh_rows x m e p
  pub ups : All (λ q. under q p ≡ true) left

module _ (x : Mark) (m : List MarkRow) (e : List Row) (p : Names) where
  pub fill_none : (left : List Names) (rows : List MarkRow) → left ≡ prefixes p → length left ≤ 9 → rows ≡ [] → Filled x m e p left rows
  fill_none left rows is few none = subst (Filled x m e p left) (sym none) (record {
    few = omega (arith, few);
    whole = ap (build (fresh_mark x m e p)) is;
    ups = subst (All (λ q. under q p ≡ true)) (sym is) (all_under p);
  })

  module _ (left : List Names) (rows : List MarkRow) (f : Filled x m e p left rows) (q : Names) (rest : List Names) (is : left ≡ q ∷ rest) where
    here : Filled x m e p (q ∷ rest) rows
    here = subst (λ l. Filled x m e p l rows) is f

    pub fill_more : (y : Mark) → fresh_mark x m e p q ≡ Some y → (ok : Bool) (after : List MarkRow) → ok ≡ splices 9 ((q, y) ∷ []) rows → after ≡ cond ok (spliced ((q, y) ∷ []) rows) rows → Filled x m e p rest after
    fill_more y n ok after was put =
        subst (Filled x m e p rest) (sym (put ∙ cond-true ok _ rows (was ∙ fits) ∙ last))
        (record { few = omega (arith, here.few, length-append rows (r ∷ [])); whole = append_assoc rows (r ∷ []) left_rows ∙ all; ups = here.ups.1 }) where
          r : MarkRow
          r = (q, y)

          left_rows : List MarkRow
          left_rows = build (fresh_mark x m e p) rest

          all : rows ++ r ∷ left_rows ≡ fresh_rows x m e p
          all = sym (ap (λ o. rows ++ row q o left_rows) n) ∙ here.whole

          front : (ascending (rows ++ r ∷ []) ≡ true) × (lead r.0 rows ≡ length rows)
          front = rises_front rows r left_rows (ap ascending all ∙ ascending-build (fresh_mark x m e p) (prefixes p) (ascends-prefixes p))

          last : spliced (r ∷ []) rows ≡ rows ++ r ∷ []
          last = spliced_last rows r front.1

          fits : splices 9 (r ∷ []) rows ≡ true
          fits = and_from (leb (length rows + 1) 9) (ascending (spliced (r ∷ []) rows)) (le-leb (length rows + 1) 9 (omega (arith, here.few))) (ap ascending last ∙ front.0)
