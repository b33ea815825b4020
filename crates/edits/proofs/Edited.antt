-- What a granted edit leaves is a tree again. Assumes nothing.
use Rattle.std.proofs.Common.{◌≡◌, ℕ, Bool, true, false, cond, ◌&&◌, ltb, leb, List, is_some, Some, None, sym, refl, ap, ◌∙◌, subst, ⊎_elim}
use Rattle.std.proofs.lemmas.Bool.{true≢false, both_ways, and_parts, and_from, cond-true, cond-false}
use Rattle.paths.specs.Names.{parent}
use Rattle.rows.specs.Maps.{Names, under, at, has, ascending}
use Rattle.rows.specs.Builds.{same, set_at}
use Rattle.rows.proofs.Built.{told, same-itself, at_set, ascending_set}
use Rattle.rows.proofs.Firsts.{there}
use Rattle.rows.proofs.Unders.{parent_above}
use Rattle.trees.specs.declared.entry.Entry.{Entry}
use Rattle.trees.specs.declared.entry.Entry.TheVariants.{File, Dir}
use Rattle.trees.specs.Entries.{Row, is_dir, in_range, fine, closed, is_tree}
use Rattle.trees.proofs.Closed.{closed_by, is-sound, up-dir}
use Rattle.trees.proofs.Grown.{Sound}
use Rattle.edits.specs.declared.action.Action.{Action}
use Rattle.edits.specs.declared.action.Action.TheVariants.{Put, Mkdir, Chmod, Remove}
use Rattle.edits.specs.Edits.{putable, has_child, refused_at, with_mode, new_entry, edited, removes}
use Rattle.edits.proofs.Granted.{granted-put, granted-mkdir, granted-chmod, granted-remove}
use Rattle.edits.proofs.Belows.{apart_none}

-- ---- entries

putable-ranged : (e : Entry) → putable e ≡ true → in_range e ≡ true
putable-ranged (File f) h = h
putable-ranged (Dir d) h = absurd (true≢false (sym h))

mode_ranged : (m : ℕ) (e : Entry) → leb m 4095 ≡ true → in_range e ≡ true → in_range (with_mode m e) ≡ true
mode_ranged m (File f) l h =
    let rest = leb f.size 1099511627776 && ltb f.content 18446744073709551616 in
    and_from (leb m 4095) rest l (and_parts (leb f.mode 4095) rest h).1
mode_ranged m (Dir d) l h = l

mode_dir : (m : ℕ) (e : Entry) → is_dir (Some e) ≡ true → is_dir (Some (with_mode m e)) ≡ true
mode_dir m (File f) h = h
mode_dir m (Dir d) h = refl

-- ---- one change of a tree

module _ (rs : List Row) (up : ascending rs ≡ true) (c : closed rs rs ≡ true) (p : Names) where
  -- an entry in place of what was there
  module _ (e : Entry) (keeps : is_dir (at rs p) ≡ true → is_dir (Some e) ≡ true) where
    dir_stays : (q : Names) → is_dir (at rs q) ≡ true → is_dir (at (set_at rs p (Some e)) q) ≡ true
    dir_stays q h =
        ap is_dir (at_set rs p (Some e) q)
        ∙ ⊎_elim
        (λ y. ap is_dir (cond-true (same q p) (Some e) (at rs q) y.1) ∙ keeps (ap (λ z. is_dir (at rs z)) (sym y.0) ∙ h))
        (λ n. ap is_dir (cond-false (same q p) (Some e) (at rs q) n) ∙ h)
        (told q p)

    set_some-closed : fine p ≡ true → in_range e ≡ true → is_dir (at rs (parent p)) ≡ true → closed (set_at rs p (Some e)) (set_at rs p (Some e)) ≡ true
    set_some-closed f r d = closed_by (set_at rs p (Some e)) (ascending_set rs p (Some e) up) (λ q v h. ⊎_elim (λ y. here q v y.0 (sym (cond-true (same q p) (Some e) (at rs q) y.1) ∙ (sym (at_set rs p (Some e) q) ∙ h))) (λ n. other q v (sym (cond-false (same q p) (Some e) (at rs q) n) ∙ (sym (at_set rs p (Some e) q) ∙ h))) (told q p)) where
      here : (q : Names) (v : Entry) → q ≡ p → Some e ≡ Some v → Sound in_range is_dir (set_at rs p (Some e)) (q, v)
      here q v s h =
          let is : e ≡ v = cc in
          record { good = ap fine s ∙ f; ranged = ap in_range (sym is) ∙ r; under = dir_stays (parent q) (ap (λ z. is_dir (at rs (parent z))) s ∙ d) }

      other : (q : Names) (v : Entry) → at rs q ≡ Some v → Sound in_range is_dir (set_at rs p (Some e)) (q, v)
      other q v h =
          let s = is-sound rs c q v h in
          record { good = s.good; ranged = s.ranged; under = dir_stays (parent q) s.under }

  -- nothing in place of a file or of a directory without a child
  set_none-closed : has_child rs p ≡ false → closed (set_at rs p None) (set_at rs p None) ≡ true
  set_none-closed none = closed_by (set_at rs p None) (ascending_set rs p None up) (λ q v h. each q v (same q p) refl (sym (at_set rs p None q) ∙ h)) where
    each : (q : Names) (v : Entry) (t : Bool) → same q p ≡ t → cond t None (at rs q) ≡ Some v → Sound in_range is_dir (set_at rs p None) (q, v)
    each q v true e h = absurd (true≢false (let z : ◌≡◌ {A = Bool} true false = cc in z))
    each q v false e h =
        let s = is-sound rs c q v h in
        record { good = s.good; ranged = s.ranged; under = ap is_dir (at_set rs p None (parent q)) ∙ (⊎_elim (λ y. absurd (child y.0)) (λ n. ap is_dir (cond-false (same (parent q) p) None (at rs (parent q)) n) ∙ s.under) (told (parent q) p)) } where
          child : parent q ≡ p → ⊥
          child y =
              let gone = apart_none rs c p none q (subst (λ z. under z q ≡ true) y (parent_above q)) e in
              true≢false (let z : ◌≡◌ {A = Bool} true false = cc in z)

-- ---- an edit

module _ (rs : List Row) (room need : ℕ) (p : Names) (up : ascending rs ≡ true) (c : closed rs rs ≡ true) (f : fine p ≡ true) where
  after-closed : (a : Action) → refused_at rs room need p a ≡ None → closed (set_at rs p (new_entry a (at rs p))) (set_at rs p (new_entry a (at rs p))) ≡ true
  after-closed (Put e) h =
      let g = granted-put rs room need p e h in
      set_some-closed rs up c p e (λ d. absurd (both_ways (is_dir (at rs p)) g.2 d)) f (putable-ranged e g.0) g.1.under
  after-closed (Mkdir m) h =
      let g = granted-mkdir rs room need p m h in
      set_some-closed rs up c p (Dir (record { mode = m })) (λ d. refl) f g.0 g.1.under
  after-closed (Chmod m) h =
      let g = granted-chmod rs room need p m h in
      let d = there rs p g.1 in
      let new = with_mode m d.0 in
      let is : new_entry (Chmod m) (at rs p) ≡ Some new = ap (new_entry (Chmod m)) d.1 in
      subst (λ o. closed (set_at rs p o) (set_at rs p o) ≡ true) (sym is) (set_some-closed rs up c p new (λ k. mode_dir m d.0 (ap is_dir (sym d.1) ∙ k)) f (mode_ranged m d.0 g.0 (is-sound rs c p d.0 d.1).ranged) (up-dir rs c p g.1))
  after-closed Remove h = set_none-closed rs up c p (granted-remove rs room need p h).2

  -- the entries after a granted edit
  pub edited_tree : (a : Action) → refused_at rs room need p a ≡ None → is_tree (edited rs p a) ≡ true
  unfolding edited
  edited_tree a h =
      let new = set_at rs p (new_entry a (at rs p)) in
      and_from (ascending new) (closed new new) (ascending_set rs p (new_entry a (at rs p)) up) (after-closed a h)

  -- an edit that leaves nothing at the path had nothing below it
  pub emptied : (a : Action) → refused_at rs room need p a ≡ None → new_entry a (at rs p) ≡ None → has_child rs p ≡ false
  emptied (Put e) h n = absurd (true≢false (ap is_some n))
  emptied (Mkdir m) h n = absurd (true≢false (ap is_some n))
  emptied (Chmod m) h n =
      let d = there rs p (granted-chmod rs room need p m h).1 in
      absurd (true≢false (ap is_some (sym (ap (new_entry (Chmod m)) d.1) ∙ n)))
  emptied Remove h n = (granted-remove rs room need p h).2

  writes : (a : Action) → refused_at rs room need p a ≡ None → removes a ≡ false → is_some (new_entry a (at rs p)) ≡ true
  writes (Put e) h r = refl
  writes (Mkdir m) h r = refl
  writes (Chmod m) h r =
      let d = there rs p (granted-chmod rs room need p m h).1 in
      ap (λ o. is_some (new_entry (Chmod m) o)) d.1
  writes Remove h r = absurd (true≢false r)

  -- any other leaves something
  pub edited-there : (a : Action) → refused_at rs room need p a ≡ None → removes a ≡ false → has (edited rs p a) p ≡ true
  unfolding edited
  edited-there a h r =
      let new = new_entry a (at rs p) in
      ap is_some (at_set rs p new p ∙ cond-true (same p p) new (at rs p) (same-itself p)) ∙ writes a h r

pub edited-is : (rs : List Row) (p : Names) (a : Action) → edited rs p a ≡ set_at rs p (new_entry a (at rs p))
unfolding edited
edited-is rs p a = refl
