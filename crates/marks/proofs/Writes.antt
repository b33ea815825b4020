-- A mark written at a path, with its directories copied up. Assumes nothing.
use Rattle.std.proofs.Common.{◌≡◌, ℕ, Bool, true, false, cond, List, ◌∷◌, ◌++◌, Some, None, Option, sym, refl, ap, ◌∙◌, subst, ⊎_elim}
use Rattle.std.proofs.lemmas.Bool.{true≢false, or_parts, cond-true, cond-false, cases_Bool}
use Rattle.paths.specs.Names.{prefixes}
use Rattle.rows.specs.Maps.{Names, at, ascending, under}
use Rattle.rows.specs.Builds.{same, among, keys, union}
use Rattle.rows.proofs.Built.{at-built, at-missing, among-union, ascending-build, ascends-union, ascends-keys, same-itself, same_path, told}
use Rattle.rows.proofs.Unders.{under_goes, among-prefixes, strictly, not_over, not_at}
use Rattle.trees.specs.declared.entry.Entry.{Entry}
use Rattle.trees.specs.declared.entry.Entry.TheVariants as entry
use Rattle.trees.specs.Entries.{Row, is_dir}
use Rattle.marks.specs.declared.mark.Mark.{Mark}
use Rattle.marks.specs.declared.mark.Mark.TheVariants.{Whiteout, File, Dir, Opaque}
use Rattle.marks.specs.Marks.{MarkRow, entry_of, stops, marks_dir, cut, unless, see, merged}
use Rattle.marks.specs.Edits.{lifted, write_at, written}
use Rattle.marks.proofs.Cuts.{cut_alike, proper_at}
use Rattle.marks.proofs.Merges.{at-merged}

-- ---- what was copied up

see-lifted : (x : Option Mark) (w : Option Entry) → see (lifted x (see x w)) w ≡ see x w
see-lifted None None = refl
see-lifted None (Some (entry.File f)) = refl
see-lifted None (Some (entry.Dir d)) = refl
see-lifted (Some x) w = refl

stops-lifted : (x : Option Mark) (w : Option Entry) → stops (lifted x w) ≡ stops x
stops-lifted None None = refl
stops-lifted None (Some (entry.File f)) = refl
stops-lifted None (Some (entry.Dir d)) = refl
stops-lifted (Some x) w = refl

pub marks_dir-lifted : (x : Option Mark) (w : Option Entry) → is_dir (see x w) ≡ true → marks_dir (lifted x (see x w)) ≡ true
marks_dir-lifted None None h = h
marks_dir-lifted None (Some (entry.File f)) h = h
marks_dir-lifted None (Some (entry.Dir d)) h = refl
marks_dir-lifted (Some Whiteout) w h = h
marks_dir-lifted (Some (File f)) w h = h
marks_dir-lifted (Some (Dir d)) w h = refl
marks_dir-lifted (Some (Opaque d)) w h = refl

-- ---- the marks afterwards

none_written : (x : Mark) (w o : Option Mark) (s u : Bool) → s ≡ false → u ≡ false → o ≡ None → cond s (Some x) (cond u w o) ≡ None
none_written x w o true u a b h = absurd (true≢false a)
none_written x w o false true a b h = absurd (true≢false b)
none_written x w o false false a b h = h

module _ (x : Mark) (m : List MarkRow) (e : List Row) (p : Names) where
  pub at-written : (q : Names) → at (written x m e p) q ≡ write_at x (at m) (at (merged m e)) p q
  unfolding written
  at-written q =
      at-built (write_at x (at m) (at (merged m e)) p) (union (prefixes p) (keys m)) q
      (λ h. let s = or_parts (among (prefixes p) q) (among (keys m) q) (sym (among-union (prefixes p) (keys m) q) ∙ h) in
      let u = sym (among-prefixes p q) ∙ s.0 in
      none_written x (lifted (at m q) (at (merged m e) q)) (at m q) (same q p) (under q p) (not_over q p u) u (at-missing m q s.1))

  pub ascending-written : ascending m ≡ true → ascending (written x m e p) ≡ true
  unfolding written
  ascending-written up = ascending-build (write_at x (at m) (at (merged m e)) p) (union (prefixes p) (keys m)) (ascends-union (prefixes p) (keys m) (ascends-keys m up))

  -- at the path
  pub written-here : at (written x m e p) p ≡ Some x
  written-here = at-written p ∙ cond-true (same p p) (Some x) _ (same-itself p)

  -- elsewhere: copied up above the path, and else as it was
  pub written-above : (q : Names) → same q p ≡ false → under q p ≡ true → at (written x m e p) q ≡ lifted (at m q) (at (merged m e) q)
  written-above q n u = at-written q ∙ cond-false (same q p) (Some x) _ n ∙ cond-true (under q p) (lifted (at m q) (at (merged m e) q)) (at m q) u

  pub written_apart : (q : Names) → under q p ≡ false → at (written x m e p) q ≡ at m q
  written_apart q u = at-written q ∙ cond-false (same q p) (Some x) _ (not_over q p u) ∙ cond-false (under q p) (lifted (at m q) (at (merged m e) q)) (at m q) u

  -- but at the path itself, what stops and what is seen stays
  stops_else : (q : Names) → same q p ≡ false → stops (at (written x m e p) q) ≡ stops (at m q)
  stops_else q n = ⊎_elim (λ u. ap stops (written-above q n u) ∙ stops-lifted (at m q) (at (merged m e) q)) (λ u. ap stops (written_apart q u)) (cases_Bool (under q p))

  see_else : (q : Names) → same q p ≡ false → (c : Bool) → c ≡ cut (at m) q → see (at (written x m e p) q) (unless c (at e q)) ≡ at (merged m e) q
  see_else q n c f =
      ap (λ b. see (at (written x m e p) q) (unless b (at e q))) f
      ∙ ⊎_elim
      (λ u. ap (λ z. see z (unless (cut (at m) q) (at e q))) (written-above q n u ∙ ap (lifted (at m q)) (at-merged m e q)) ∙ see-lifted (at m q) (unless (cut (at m) q) (at e q)))
      (λ u. ap (λ z. see z (unless (cut (at m) q) (at e q))) (written_apart q u))
      (cases_Bool (under q p))
      ∙ sym (at-merged m e q)

  -- a path that does not lie below is cut off as before
  cut_else : (q : Names) → ((r : Names) (n : List ℕ) (s : Names) → q ≡ r ++ n ∷ s → same r p ≡ true → stops (Some x) ≡ stops (at m p)) → cut (at (written x m e p)) q ≡ cut (at m) q
  cut_else q h = cut_alike (at (written x m e p)) (at m) q (λ r n s g. ⊎_elim (λ y. ap (λ z. stops (at (written x m e p) z)) y.0 ∙ ap stops written-here ∙ h r n s g y.1 ∙ ap (λ z. stops (at m z)) (sym y.0)) (stops_else r) (told r p))

  -- not at the path and not below it, nothing is seen to change
  pub seen_apart : (q : Names) → under p q ≡ false → at (merged (written x m e p) e) q ≡ at (merged m e) q
  seen_apart q u =
      at-merged (written x m e p) e q
      ∙ see_else q (not_at q p u) (cut (at (written x m e p)) q)
      (cut_else q (λ r n s g y. absurd (true≢false (sym (subst (λ z. under p z ≡ true) (sym g) (subst (λ z. under z (r ++ n ∷ s) ≡ true) (same_path r p y) (under_goes r (n ∷ s)))) ∙ u))))

  -- at the path the mark's entry is seen
  pub seen_here : at (merged (written x m e p) e) p ≡ entry_of x
  seen_here = at-merged (written x m e p) e p ∙ ap (λ z. see z (unless (cut (at (written x m e p)) p) (at e p))) written-here

  -- below it all is seen as before, where the mark stops as the old one did
  pub seen_below : (q : Names) → same q p ≡ false → stops (Some x) ≡ stops (at m p) → at (merged (written x m e p) e) q ≡ at (merged m e) q
  seen_below q n s = at-merged (written x m e p) e q ∙ see_else q n (cut (at (written x m e p)) q) (cut_else q (λ r j t g y. s))

  -- and nothing, where the mark stops and nothing is marked there
  pub seen_none : (q : Names) → under p q ≡ true → under q p ≡ false → stops (Some x) ≡ true → at m q ≡ None → at (merged (written x m e p) e) q ≡ None
  seen_none q u w s n =
      let d = strictly p q u w in
      let c : cut (at (written x m e p)) q ≡ true = ap (cut (at (written x m e p))) d.2 ∙ proper_at (λ r. stops (at (written x m e p) r)) p d.0 d.1 (ap stops written-here ∙ s) in
      at-merged (written x m e p) e q ∙ ap (λ z. see z (unless (cut (at (written x m e p)) q) (at e q))) (written_apart q w ∙ n) ∙ ap (λ b. unless b (at e q)) c
