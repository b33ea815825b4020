-- Marks that are written or dropped still make a layer. Assumes nothing.
use Rattle.std.proofs.Common.{◌≡◌, ℕ, Bool, true, false, cond, not, ◌&&◌, List, [], ◌∷◌, is_some, Some, None, Option, sym, refl, ap, ◌∙◌, subst, ⊎_elim}
use Rattle.std.proofs.lemmas.Bool.{true≢false, and_from, cond-true, cond-false, cases_Bool, false_from_ne_true}
use Rattle.paths.specs.Names.{parent}
use Rattle.rows.specs.Maps.{Names, at, has, ascending, under, without}
use Rattle.rows.specs.Builds.{same}
use Rattle.rows.proofs.Built.{told, same_some}
use Rattle.rows.proofs.Changed.{at-without, ascending-only}
use Rattle.rows.proofs.Unders.{under_goes, under-trans, parent_above, above_parent, not_below}
use Rattle.trees.specs.declared.entry.Entry.{Entry}
use Rattle.trees.specs.declared.entry.Entry.TheVariants as entry
use Rattle.trees.specs.Entries.{Row, is_dir, in_range, fine, closed, is_tree}
use Rattle.trees.proofs.Closed.{dir-there}
use Rattle.trees.proofs.Grown.{Sound, sound-at, grown_by, dir-above}
use Rattle.edits.specs.Edits.{is_root}
use Rattle.marks.specs.declared.mark.Mark.{Mark}
use Rattle.marks.specs.declared.mark.Mark.TheVariants.{Dir}
use Rattle.marks.specs.Marks.{MarkRow, stops, marks_dir, ranged, cut, unless, see, merged, sound, layered}
use Rattle.marks.specs.Edits.{lifted, written, ProperDirs}
use Rattle.marks.proofs.Cuts.{cut_alike}
use Rattle.marks.proofs.Merges.{at-merged, layer_parts, merged-closed}
use Rattle.marks.proofs.Writes.{written-here, written-above, written_apart, ascending-written, marks_dir-lifted}

pub marks_dir-there : (o : Option Mark) → marks_dir o ≡ true → is_some o ≡ true
marks_dir-there None h = h
marks_dir-there (Some x) h = refl

-- what lies at or above a path that is not under p is not under p
off : (p q r : Names) → under p r ≡ false → under q r ≡ true → under p q ≡ false
off p q r f u = false_from_ne_true (under p q) (λ w. true≢false (sym (under-trans p q r w u) ∙ f))

-- ---- the directories above a path

module _ (rs : List Row) (c : closed rs rs ≡ true) where
  -- of a path that is there
  pub dirs-above : (p : Names) → has rs p ≡ true → ProperDirs rs p
  dirs-above p h q u n = dir-above in_range is_dir dir-there rs c q p u (not_below q p n u) h

  -- and of one whose parent is a directory
  pub dirs-parent : (p : Names) → is_dir (at rs (parent p)) ≡ true → ProperDirs rs p
  dirs-parent p h q u n =
      ⊎_elim
      (λ y. ap (λ z. is_dir (at rs z)) y.0 ∙ h)
      (dirs-above (parent p) (dir-there (at rs (parent p)) h) q (above_parent q p u (not_below q p n u)))
      (told q (parent p))

-- ---- a mark is written

-- the parent of a path that lies above p lies above it too, unless both are the root
parent_over : (q p : Names) → under q p ≡ true → same q p ≡ false → (same (parent q) p ≡ false) × (under (parent q) p ≡ true)
parent_over q p u n =
    let w = under-trans (parent q) q p (parent_above q) u in
    (⊎_elim (λ y. absurd (true≢false (sym (subst (λ z. under z q ≡ true) y.0 (parent_above q)) ∙ not_below q p n u))) (λ f. f) (told (parent q) p), w)

root_parent : (p : Names) → is_root p ≡ false → same (parent p) p ≡ false
root_parent [] h = absurd (true≢false h)
root_parent (n ∷ p) h = ⊎_elim (λ y. absurd (shorter n p y.0)) (λ f. f) (told (parent (n ∷ p)) (n ∷ p)) where
  nil : (n : List ℕ) (q : Names) → ◌≡◌ {A = Names} [] (n ∷ q) → ⊥
  nil n q e = let z : ◌≡◌ {A = Bool} true false = cc in true≢false z

  tails : (a b : List ℕ) (x y : Names) → ◌≡◌ {A = Names} (a ∷ x) (b ∷ y) → x ≡ y
  tails a b x y e = cc

  shorter : (n : List ℕ) (p : Names) → parent (n ∷ p) ≡ n ∷ p → ⊥
  shorter n [] e = nil n [] e
  shorter n (k ∷ p) e = shorter k p (tails n n (parent (k ∷ p)) (k ∷ p) e)

pub ascending-without : (m : List MarkRow) (p : Names) → ascending m ≡ true → ascending (without p m) ≡ true
ascending-without m p up = ascending-only (λ q. not (under p q)) m up

module _ (m : List MarkRow) (e : List Row) (lm : layered m ≡ true) (le : is_tree e ≡ true) where
  -- the mark that a copy-up leaves at a directory above
  lifted-sound : (p q : Names) (y : Mark) → is_dir (at (merged m e) q) ≡ true → lifted (at m q) (at (merged m e) q) ≡ Some y → (fine q ≡ true) × (ranged y ≡ true)
  lifted-sound p q y d h = go (at m q) (at (merged m e) q) refl refl d h where
    go : (o : Option Mark) (v : Option Entry) → at m q ≡ o → at (merged m e) q ≡ v → is_dir v ≡ true → lifted o v ≡ Some y → (fine q ≡ true) × (ranged y ≡ true)
    go (Some x) v f g d h =
        let same-mark : x ≡ y = cc in
        let s = sound-at ranged marks_dir m (layer_parts m lm).1 q x f in
        (s.good, subst (λ z. ranged z ≡ true) same-mark s.ranged)
    go None None f g d h = absurd (true≢false (sym d))
    go None (Some (entry.File k)) f g d h = absurd (true≢false (sym d))
    go None (Some (entry.Dir k)) f g d h =
        let same-mark : Dir k ≡ y = cc in
        let s = sound-at in_range is_dir (merged m e) (merged-closed m e lm le) q (entry.Dir k) g in
        (s.good, subst (λ z. ranged z ≡ true) same-mark s.ranged)

  lifted_dir : (q : Names) → is_dir (at (merged m e) q) ≡ true → marks_dir (lifted (at m q) (at (merged m e) q)) ≡ true
  lifted_dir q d =
      ap (λ v. marks_dir (lifted (at m q) v)) (at-merged m e q) ∙ marks_dir-lifted (at m q) (unless (cut (at m) q) (at e q)) (sym (ap is_dir (at-merged m e q)) ∙ d)

  module _ (x : Mark) (p : Names) (good-path : fine p ≡ true) (in_reach : ranged x ≡ true) (dirs : ProperDirs (merged m e) p) (root : is_root p ≡ true → marks_dir (Some x) ≡ true) (keeps : marks_dir (at m p) ≡ true → marks_dir (Some x) ≡ true) where
    -- a directory above p is marked as one
    marks_dir-above : (q : Names) → same q p ≡ false → under q p ≡ true → marks_dir (at (written x m e p) q) ≡ true
    marks_dir-above q n u = ap marks_dir (written-above x m e p q n u) ∙ lifted_dir q (dirs q u n)

    parent_of_p : marks_dir (at (written x m e p) (parent p)) ≡ true
    parent_of_p = ⊎_elim
        (λ r. ap (λ z. marks_dir (at (written x m e p) z)) (is_root-parent p r) ∙ ap marks_dir (written-here x m e p) ∙ root r)
        (λ r. marks_dir-above (parent p) (root_parent p r) (parent_above p))
        (cases_Bool (is_root p)) where
          is_root-parent : (p : Names) → is_root p ≡ true → parent p ≡ p
          is_root-parent [] r = refl
          is_root-parent (n ∷ p) r = absurd (true≢false (sym r))

    -- the parent of a row that stays
    parent_apart : (q : Names) → marks_dir (at m (parent q)) ≡ true → marks_dir (at (written x m e p) (parent q)) ≡ true
    parent_apart q h = ⊎_elim
        (λ y. ap (λ z. marks_dir (at (written x m e p) z)) y.0 ∙ ap marks_dir (written-here x m e p) ∙ keeps (sym (ap (λ z. marks_dir (at m z)) y.0) ∙ h))
        (λ n. ⊎_elim (λ u. marks_dir-above (parent q) n u) (λ u. ap marks_dir (written_apart x m e p (parent q) u) ∙ h) (cases_Bool (under (parent q) p)))
        (told (parent q) p)

    written-sound : (q : Names) (y : Mark) → at (written x m e p) q ≡ Some y → Sound ranged marks_dir (written x m e p) (q, y)
    written-sound q y h = ⊎_elim here (λ n. ⊎_elim (over n) (away n) (cases_Bool (under q p))) (told q p) where
      here : (q ≡ p) × (same q p ≡ true) → Sound ranged marks_dir (written x m e p) (q, y)
      here s =
          let is : x ≡ y = same_some x y (sym (written-here x m e p) ∙ sym (ap (at (written x m e p)) s.0) ∙ h) in
          record {
            good = subst (λ z. fine z ≡ true) (sym s.0) good-path;
            ranged = subst (λ z. ranged z ≡ true) is in_reach;
            under = ap (λ z. marks_dir (at (written x m e p) (parent z))) s.0 ∙ parent_of_p;
          }

      over : same q p ≡ false → under q p ≡ true → Sound ranged marks_dir (written x m e p) (q, y)
      over n u =
          let s = lifted-sound p q y (dirs q u n) (sym (written-above x m e p q n u) ∙ h) in
          let w = parent_over q p u n in
          record { good = s.0; ranged = s.1; under = marks_dir-above (parent q) w.0 w.1 }

      away : same q p ≡ false → under q p ≡ false → Sound ranged marks_dir (written x m e p) (q, y)
      away n u =
          let s = sound-at ranged marks_dir m (layer_parts m lm).1 q y (sym (written_apart x m e p q u) ∙ h) in
          record { good = s.good; ranged = s.ranged; under = parent_apart q s.under }

    pub layered-written : layered (written x m e p) ≡ true
    layered-written =
        let up = ascending-written x m e p (layer_parts m lm).0 in
        and_from (ascending (written x m e p)) (sound (written x m e p) (written x m e p)) up (grown_by ranged marks_dir (written x m e p) up written-sound)

  -- ---- rows dropped at a path and below it

  kept_row : (p q : Names) (y : Mark) → at (without p m) q ≡ Some y → (under p q ≡ false) × (at m q ≡ Some y)
  kept_row p q y h = go (under p q) refl (sym (at-without p m q) ∙ h) where
    go : (t : Bool) → under p q ≡ t → cond t None (at m q) ≡ Some y → (under p q ≡ false) × (at m q ≡ Some y)
    go true f g = absurd (true≢false (sym (ap is_some g)))
    go false f g = (f, g)

  pub at-kept : (p q : Names) → under p q ≡ false → at (without p m) q ≡ at m q
  at-kept p q u = at-without p m q ∙ cond-false (under p q) None (at m q) u

  pub at_dropped : (p q : Names) → under p q ≡ true → at (without p m) q ≡ None
  at_dropped p q u = at-without p m q ∙ cond-true (under p q) None (at m q) u

  -- not at the path and not below it, what is seen stays
  pub seen-without : (p q : Names) → under p q ≡ false → at (merged (without p m) e) q ≡ at (merged m e) q
  seen-without p q u =
      at-merged (without p m) e q
      ∙ ap (λ z. see z (unless (cut (at (without p m)) q) (at e q))) (at-kept p q u)
      ∙ ap (λ b. see (at m q) (unless b (at e q))) (cut_alike (at (without p m)) (at m) q (λ r n s g. ap stops (at-kept p r (off p r q u (subst (λ z. under r z ≡ true) (sym g) (under_goes r (n ∷ s)))))))
      ∙ sym (at-merged m e q)

  pub dirs-without : (p : Names) → ProperDirs (merged m e) p → ProperDirs (merged (without p m) e) p
  dirs-without p dirs q u n = ap is_dir (seen-without p q (not_below q p n u)) ∙ dirs q u n

  pub layered-without : (p : Names) → layered (without p m) ≡ true
  layered-without p =
      let up = ascending-without m p (layer_parts m lm).0 in
      and_from (ascending (without p m)) (sound (without p m) (without p m)) up (grown_by ranged marks_dir (without p m) up rest) where
        rest : (q : Names) (y : Mark) → at (without p m) q ≡ Some y → Sound ranged marks_dir (without p m) (q, y)
        rest q y h =
            let k = kept_row p q y h in
            let s = sound-at ranged marks_dir m (layer_parts m lm).1 q y k.1 in
            record { good = s.good; ranged = s.ranged; under = ap marks_dir (at-kept p (parent q) (off p (parent q) q k.0 (parent_above q))) ∙ s.under }
