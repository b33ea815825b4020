-- An edit on marks makes its one change in the entries that are seen. Assumes nothing.
use Rattle.std.proofs.Common.{◌≡◌, ℕ, ◌+◌, Bool, true, false, cond, not, ◌&&◌, ltb, leb, List, [], ◌∷◌, ◌++◌, length, is_some, Some, None, Option, sym, refl, ap, ◌∙◌, subst, ⊎_elim, append_assoc, arith}
use Rattle.std.proofs.lemmas.List.{length-append}
use Rattle.std.proofs.lemmas.Bool.{true≢false, and_parts, and_from, and_cases, not-false, cond-true, cond-false, cases_Bool, false_from_ne_true}
use Rattle.std.specs.Option.{option_map}
use Rattle.rows.specs.Maps.{Names, at, has, under, without}
use Rattle.rows.specs.Builds.{same, set_at}
use Rattle.rows.proofs.Built.{same_path, told, at_set, ascending_set, same_rows}
use Rattle.rows.proofs.Firsts.{prefix_there}
use Rattle.rows.proofs.Unders.{under_goes, under_rest, under-itself, same-under, not_over, not_at, not_below, not_above}
use Rattle.trees.specs.declared.entry.Entry.{Entry}
use Rattle.trees.specs.declared.entry.Entry.TheVariants as entry
use Rattle.trees.specs.Entries.{Row, is_dir, in_range, fine, is_tree}
use Rattle.trees.proofs.Closed.{tree_parts, dir-there, closed-rooted, up-dir}
use Rattle.trees.proofs.Grown.{sound-at, none_below}
use Rattle.edits.specs.declared.action.Action.{Action}
use Rattle.edits.specs.declared.action.Action.TheVariants.{Put, Mkdir, Chmod, Remove}
use Rattle.edits.specs.Edits.{is_root, has_child, refused_at, with_mode, new_entry, edited}
use Rattle.edits.proofs.Granted.{Fits, granted-put, granted-mkdir, granted-chmod, granted-remove}
use Rattle.edits.proofs.Belows.{below_none}
use Rattle.marks.specs.declared.mark.Mark.{Mark}
use Rattle.marks.specs.declared.mark.Mark.TheVariants.{Whiteout, File, Dir, Opaque}
use Rattle.marks.specs.Marks.{MarkRow, entry_of, stops, is_opaque, marks_dir, ranged, some_proper, cut, unless, see, merged, layered}
use Rattle.marks.specs.Edits.{written, made_dir, new_mode, write_some, shows_again, removed, marked, ProperDirs}
use Rattle.marks.proofs.Cuts.{proper_at, proper_finds, opaque_cuts}
use Rattle.marks.proofs.Merges.{at-merged, ascending-merged, layer_parts, marks_dir-seen, merged-closed}
use Rattle.marks.proofs.Writes.{seen_apart, seen_here, seen_below, seen_none}
use Rattle.marks.proofs.Grows.{marks_dir-there, dirs-above, dirs-parent, layered-written, layered-without, at-kept, at_dropped, seen-without, dirs-without}
use Rattle.paths.proofs.Granted.{is_none}

-- what an edit leaves: at a good path a layer, and the entries with the one change
record Made (m m' : List MarkRow) (e : List Row) (p : Names) (v : Option Entry) : Type 0 where
  layer : fine p ≡ true → layered m' ≡ true
  seen : (q : Names) → at (merged m' e) q ≡ cond (same q p) v (at (merged m e) q)

-- the same of a good path
pub record Kept (m m' : List MarkRow) (e : List Row) (p : Names) (v : Option Entry) : Type 0 where
  pub layer : layered m' ≡ true
  pub seen : (q : Names) → at (merged m' e) q ≡ cond (same q p) v (at (merged m e) q)

module _ (m : List MarkRow) (e : List Row) (lm : layered m ≡ true) (le : is_tree e ≡ true) (p : Names) where
  over : Fits (merged m e) p → ProperDirs (merged m e) p
  over f = dirs-parent (merged m e) (merged-closed m e lm le) p f.under

  -- ---- a mark is written

  module _ (x : Mark) (in_reach : ranged x ≡ true) (dirs : ProperDirs (merged m e) p) (root : is_root p ≡ true → marks_dir (Some x) ≡ true) where
    by_place : ((q : Names) → under p q ≡ true → under q p ≡ false → at (merged (written x m e p) e) q ≡ at (merged m e) q) → (q : Names) → at (merged (written x m e p) e) q ≡ cond (same q p) (entry_of x) (at (merged m e) q)
    by_place f q = ⊎_elim
        (λ y. ap (at (merged (written x m e p) e)) y.0 ∙ seen_here x m e p ∙ sym (cond-true (same q p) (entry_of x) (at (merged m e) q) y.1))
        (λ n. ⊎_elim (λ u. f q u (not_above q p n u)) (λ u. seen_apart x m e p q u) (cases_Bool (under p q)) ∙ sym (cond-false (same q p) (entry_of x) (at (merged m e) q) n))
        (told q p)

    -- over what is no directory
    written_over : is_dir (at (merged m e) p) ≡ false → stops (Some x) ≡ true → Made m (written x m e p) e p (entry_of x)
    written_over d s = record {
      layer = λ good. layered-written m e lm le x p good in_reach dirs root (λ h. absurd (true≢false (sym (marks_dir-merged h) ∙ d)));
      seen = by_place (λ q u w. seen_none x m e p q u w s (none_below ranged marks_dir marks_dir-there m (layer_parts m lm).1 p q u w (false_from_ne_true (marks_dir (at m p)) (λ h. true≢false (sym (marks_dir-merged h) ∙ d)))) ∙ sym (none_below in_range is_dir dir-there (merged m e) (merged-closed m e lm le) p q u w d));
    } where
      marks_dir-merged : marks_dir (at m p) ≡ true → is_dir (at (merged m e) p) ≡ true
      marks_dir-merged h = ap is_dir (at-merged m e p) ∙ marks_dir-seen (at m p) (unless (cut (at m) p) (at e p)) h

    -- over a mark that stops as the new one does
    written_alike : stops (Some x) ≡ stops (at m p) → (marks_dir (at m p) ≡ true → marks_dir (Some x) ≡ true) → Made m (written x m e p) e p (entry_of x)
    written_alike s k = record {
      layer = λ good. layered-written m e lm le x p good in_reach dirs root k;
      seen = by_place (λ q u w. seen_below x m e p q (not_over q p w) s);
    }

  -- ---- rows are dropped

  strictly_above : (r : Names) (n : List ℕ) (s : Names) → p ≡ r ++ n ∷ s → under p r ≡ false
  strictly_above r n s g = not_below r p (false_from_ne_true (same r p) (λ y. longer r n s (same_path r p y ∙ g))) (subst (λ z. under r z ≡ true) (sym g) (under_goes r (n ∷ s))) where
    longer : (r : Names) (n : List ℕ) (s : Names) → r ≡ r ++ n ∷ s → ⊥
    longer r n s e = let l : length r ≡ length r + length (n ∷ s) = ap length e ∙ length-append r (n ∷ s) in omega arith

  -- at the path and below it, nothing is seen unless the tree below shows
  dropped_below : shows_again m e p ≡ false → (q : Names) → under p q ≡ true → at (merged (without p m) e) q ≡ None
  dropped_below h q u =
      at-merged (without p m) e q
      ∙ ap (λ z. see z (unless (cut (at (without p m)) q) (at e q))) (at_dropped m e lm le p q u)
      ∙ ⊎_elim lower hidden (and_cases (has e p) (not (some_proper (λ r. is_opaque (at m r)) p)) h) where
        nothing : (c : Bool) (o : Option Entry) → o ≡ None → unless c o ≡ None
        nothing true o f = refl
        nothing false o f = f

        lower : has e p ≡ false → unless (cut (at (without p m)) q) (at e q) ≡ None
        lower f =
            let d = under_rest p q u in
            nothing (cut (at (without p m)) q) (at e q) (is_none (at e q) (false_from_ne_true (has e q) (λ t. true≢false (sym (prefix_there e (closed-rooted e e (tree_parts e le).1) d.0 p (subst (λ z. has e z ≡ true) d.1 t)) ∙ f))))

        hidden : not (some_proper (λ r. is_opaque (at m r)) p) ≡ false → unless (cut (at (without p m)) q) (at e q) ≡ None
        hidden f =
            let w = proper_finds (λ r. is_opaque (at m r)) p (not-false (some_proper (λ r. is_opaque (at m r)) p) f) in
            let d = under_rest p q u in
            let here : q ≡ w.0 ++ w.1 ∷ (w.2 ++ d.0) = d.1 ∙ ap (λ z. z ++ d.0) w.3 ∙ append_assoc w.0 (w.1 ∷ w.2) d.0 in
            let left : Names → Bool = λ r. is_opaque (at (without p m) r) in
            let o : left w.0 ≡ true = ap is_opaque (at-kept m e lm le p w.0 (strictly_above w.0 w.1 w.2 w.3)) ∙ w.4 in
            let c : some_proper left q ≡ true = ap (some_proper left) here ∙ proper_at left w.0 w.1 (w.2 ++ d.0) o in
            ap (λ b. unless b (at e q)) (opaque_cuts q (at (without p m)) c)

  module _ (present : has (merged m e) p ≡ true) (inside : is_root p ≡ false) (childless : has_child (merged m e) p ≡ false) where
    -- nothing but the path itself was seen there
    only_here : (q : Names) → under p q ≡ true → cond (same q p) None (at (merged m e) q) ≡ None
    only_here q u = ⊎_elim
        (λ y. cond-true (same q p) None (at (merged m e) q) y.1)
        (λ n. cond-false (same q p) None (at (merged m e) q) n ∙ below_none (merged m e) (merged-closed m e lm le) p childless q u (not_above q p n u))
        (told q p)

    apart_here : (q : Names) → under p q ≡ false → at (merged m e) q ≡ cond (same q p) None (at (merged m e) q)
    apart_here q u = sym (cond-false (same q p) None (at (merged m e) q) (not_at q p u))

    removed-shown : Made m (written Whiteout (without p m) e p) e p None
    removed-shown = record {
      layer = λ good. layered-written (without p m) e (layered-without m e lm le p) le Whiteout p good refl (dirs-without m e lm le p (dirs-above (merged m e) (merged-closed m e lm le) p present)) (λ r. absurd (true≢false (sym r ∙ inside))) (λ h. absurd (true≢false (sym h ∙ ap marks_dir (at_dropped m e lm le p p (under-itself p)))));
      seen = λ q. ⊎_elim (below q) (λ u. seen_apart Whiteout (without p m) e p q u ∙ seen-without m e lm le p q u ∙ apart_here q u) (cases_Bool (under p q));
    } where
      below : (q : Names) → under p q ≡ true → at (merged (written Whiteout (without p m) e p) e) q ≡ cond (same q p) None (at (merged m e) q)
      below q u = ⊎_elim
          (λ w. let is : q ≡ p = same_path q p (same-under q p ∙ and_from (under q p) (under p q) w u) in ap (at (merged (written Whiteout (without p m) e p) e)) is ∙ seen_here Whiteout (without p m) e p)
          (λ w. seen_none Whiteout (without p m) e p q u w refl (at_dropped m e lm le p q u))
          (cases_Bool (under q p))
          ∙ sym (only_here q u)

    removed-hidden : shows_again m e p ≡ false → Made m (without p m) e p None
    removed-hidden h = record {
      layer = λ good. layered-without m e lm le p;
      seen = λ q. ⊎_elim (λ u. dropped_below h q u ∙ sym (only_here q u)) (λ u. seen-without m e lm le p q u ∙ apart_here q u) (cases_Bool (under p q));
    }

    made-removed : Made m (removed m e p) e p None
    unfolding removed
    made-removed = go (shows_again m e p) refl where
      go : (t : Bool) → shows_again m e p ≡ t → Made m (cond t (written Whiteout (without p m) e p) (without p m)) e p None
      go true h = removed-shown
      go false h = removed-hidden h

  -- ---- the four edits

  module _ (room need : ℕ) where
    made-put : (x : Entry) → refused_at (merged m e) room need p (Put x) ≡ None → Made m (marked m e p (Put x)) e p (new_entry (Put x) (at (merged m e) p))
    made-put (entry.Dir d) h = absurd (true≢false (sym (granted-put (merged m e) room need p (entry.Dir d) h).0))
    made-put (entry.File f) h =
        let g = granted-put (merged m e) room need p (entry.File f) h in
        written_over (File f) g.0 (over g.1) (λ r. absurd (true≢false (sym r ∙ g.1.inside))) g.2 refl

    made-mkdir : (k : ℕ) → refused_at (merged m e) room need p (Mkdir k) ≡ None → Made m (marked m e p (Mkdir k)) e p (new_entry (Mkdir k) (at (merged m e) p))
    made-mkdir k h = go (at m p) refl where
      g : (leb k 4095 ≡ true) × Fits (merged m e) p × (has (merged m e) p ≡ false)
      g = granted-mkdir (merged m e) room need p k h

      rootless : {A : Type 0} → is_root p ≡ true → A
      rootless r = absurd (true≢false (sym r ∙ g.1.inside))

      there : {A : Type 0} (x : Mark) (v : Entry) → at m p ≡ Some x → entry_of x ≡ Some v → A
      there x v f i = absurd (true≢false (sym (ap is_some (at-merged m e p ∙ ap (λ z. see z (unless (cut (at m) p) (at e p))) f ∙ i)) ∙ g.2))

      go : (o : Option Mark) → at m p ≡ o → Made m (written (made_dir k (at m p)) m e p) e p (Some (entry.Dir (record { mode = k })))
      go None f = subst (λ o. Made m (written (made_dir k o) m e p) e p (Some (entry.Dir (record { mode = k })))) (sym f)
          (written_alike (Dir (record { mode = k })) g.0 (over g.1) rootless (sym (ap stops f)) (λ _. refl))
      go (Some Whiteout) f = subst (λ o. Made m (written (made_dir k o) m e p) e p (Some (entry.Dir (record { mode = k })))) (sym f)
          (written_over (Opaque (record { mode = k })) g.0 (over g.1) rootless (false_from_ne_true (is_dir (at (merged m e) p)) (λ d. true≢false (sym (dir-there (at (merged m e) p) d) ∙ g.2))) refl)
      go (Some (File x)) f = there (File x) (entry.File x) f refl
      go (Some (Dir x)) f = there (Dir x) (entry.Dir x) f refl
      go (Some (Opaque x)) f = there (Opaque x) (entry.Dir x) f refl

    -- a present root is a directory
    root_dir : has (merged m e) p ≡ true → is_root p ≡ true → is_dir (at (merged m e) p) ≡ true
    root_dir h r = go p h r where
      go : (q : Names) → has (merged m e) q ≡ true → is_root q ≡ true → is_dir (at (merged m e) q) ≡ true
      go [] h r = up-dir (merged m e) (merged-closed m e lm le) [] h
      go (n ∷ q) h r = absurd (true≢false (sym r))

    seen-mark : (x : Mark) → at m p ≡ Some x → at (merged m e) p ≡ entry_of x
    seen-mark x f = at-merged m e p ∙ ap (λ z. see z (unless (cut (at m) p) (at e p))) f

    chmod_over : (k : ℕ) → leb k 4095 ≡ true → has (merged m e) p ≡ true → (o : Option Mark) (v : Option Entry) → at m p ≡ o → at (merged m e) p ≡ v → Made m (write_some (new_mode k o v) m e p) e p (option_map (with_mode k) v)
    chmod_over k l h None None f i = absurd (true≢false (sym h ∙ ap is_some i))
    chmod_over k l h None (Some (entry.File x)) f i =
        let s = sound-at in_range is_dir (merged m e) (merged-closed m e lm le) p (entry.File x) i in
        let c = and_parts (leb x.mode 4095) (leb x.size 1099511627776 && ltb x.content 18446744073709551616) s.ranged in
        written_over (File (record { mode = k; size = x.size; content = x.content })) (and_from (leb k 4095) (leb x.size 1099511627776 && ltb x.content 18446744073709551616) l c.1) (dirs-above (merged m e) (merged-closed m e lm le) p h) (λ r. absurd (true≢false (sym (root_dir h r) ∙ ap is_dir i))) (ap is_dir i) refl
    chmod_over k l h None (Some (entry.Dir x)) f i =
        written_alike (Dir (record { mode = k })) l (dirs-above (merged m e) (merged-closed m e lm le) p h) (λ _. refl) (sym (ap stops f)) (λ _. refl)
    chmod_over k l h (Some Whiteout) v f i = absurd (true≢false (sym h ∙ ap is_some (seen-mark Whiteout f)))
    chmod_over k l h (Some (File x)) v f i =
        let s = sound-at ranged marks_dir m (layer_parts m lm).1 p (File x) f in
        let c = and_parts (leb x.mode 4095) (leb x.size 1099511627776 && ltb x.content 18446744073709551616) s.ranged in
        subst (λ w. Made m (written (File (record { mode = k; size = x.size; content = x.content })) m e p) e p (option_map (with_mode k) w)) (sym (seen-mark (File x) f) ∙ i)
        (written_alike (File (record { mode = k; size = x.size; content = x.content })) (and_from (leb k 4095) (leb x.size 1099511627776 && ltb x.content 18446744073709551616) l c.1) (dirs-above (merged m e) (merged-closed m e lm le) p h) (λ r. absurd (true≢false (sym (root_dir h r) ∙ ap is_dir (seen-mark (File x) f)))) (sym (ap stops f)) (λ d. absurd (true≢false (sym d ∙ ap marks_dir f))))
    chmod_over k l h (Some (Dir x)) v f i =
        subst (λ w. Made m (written (Dir (record { mode = k })) m e p) e p (option_map (with_mode k) w)) (sym (seen-mark (Dir x) f) ∙ i)
        (written_alike (Dir (record { mode = k })) l (dirs-above (merged m e) (merged-closed m e lm le) p h) (λ _. refl) (sym (ap stops f)) (λ _. refl))
    chmod_over k l h (Some (Opaque x)) v f i =
        subst (λ w. Made m (written (Opaque (record { mode = k })) m e p) e p (option_map (with_mode k) w)) (sym (seen-mark (Opaque x) f) ∙ i)
        (written_alike (Opaque (record { mode = k })) l (dirs-above (merged m e) (merged-closed m e lm le) p h) (λ _. refl) (sym (ap stops f)) (λ _. refl))

    made-chmod : (k : ℕ) → refused_at (merged m e) room need p (Chmod k) ≡ None → Made m (marked m e p (Chmod k)) e p (new_entry (Chmod k) (at (merged m e) p))
    made-chmod k h = let g = granted-chmod (merged m e) room need p k h in chmod_over k g.0 g.1 (at m p) (at (merged m e) p) refl refl

    -- an edit that is granted
    made_edit : (a : Action) → refused_at (merged m e) room need p a ≡ None → Made m (marked m e p a) e p (new_entry a (at (merged m e) p))
    made_edit (Put x) h = made-put x h
    made_edit (Mkdir k) h = made-mkdir k h
    made_edit (Chmod k) h = made-chmod k h
    made_edit Remove h = let g = granted-remove (merged m e) room need p h in made-removed g.1 g.0 g.2

    -- it makes its one change in the entries that are seen
    pub entries-marked : (a : Action) → refused_at (merged m e) room need p a ≡ None → merged (marked m e p a) e ≡ edited (merged m e) p a
    unfolding edited
    entries-marked a h =
        let up = (tree_parts e le).0 in
        same_rows (merged (marked m e p a) e) (set_at (merged m e) p (new_entry a (at (merged m e) p))) (ascending-merged (marked m e p a) e up) (ascending_set (merged m e) p (new_entry a (at (merged m e) p)) (ascending-merged m e up))
        (λ q. (made_edit a h).seen q ∙ sym (at_set (merged m e) p (new_entry a (at (merged m e) p)) q))

-- ---- at a good path

module _ (m : List MarkRow) (e : List Row) (lm : layered m ≡ true) (le : is_tree e ≡ true) (p : Names) (good-path : fine p ≡ true) (room need : ℕ) where
  kept_edit : (a : Action) → refused_at (merged m e) room need p a ≡ None → Kept m (marked m e p a) e p (new_entry a (at (merged m e) p))
  kept_edit a h = let c = made_edit m e lm le p room need a h in record { layer = c.layer good-path; seen = c.seen }

  pub layered-marked : (a : Action) → refused_at (merged m e) room need p a ≡ None → layered (marked m e p a) ≡ true
  layered-marked a h = (kept_edit a h).layer
