-- What paths are marked opaque after an edit, and so what the plain map of a layer becomes. Assumes nothing.
use Rattle.std.proofs.Common.{◌≡◌, ℕ, Bool, true, false, cond, not, ◌&&◌, ◌||◌, List, [], ◌∷◌, is_some, Some, None, Option, sym, refl, ap, ◌∙◌, ⊎_elim}
use Rattle.std.proofs.lemmas.Bool.{true≢false, cond-true, cond-false, cases_Bool}
use Rattle.paths.specs.Names.{prefixes}
use Rattle.rows.specs.Maps.{Names, at, has, ascending, under, without}
use Rattle.rows.specs.Builds.{same, among, add, keys, union}
use Rattle.rows.proofs.Built.{Above, Ascends, told, same_path, at-cons, among-add, among-has, ascends-add, ascends-keys}
use Rattle.rows.proofs.Unders.{under-itself}
use Rattle.rows.proofs.Changed.{at-without}
use Rattle.trees.specs.declared.entry.Entry.{Entry}
use Rattle.trees.specs.declared.entry.Entry.TheVariants as entry
use Rattle.trees.specs.Entries.{Row, is_dir, is_tree}
use Rattle.edits.specs.declared.action.Action.{Action}
use Rattle.edits.specs.declared.action.Action.TheVariants.{Put, Mkdir, Chmod, Remove}
use Rattle.edits.specs.Edits.{removes, refused_at}
use Rattle.edits.proofs.Granted.{granted-put, granted-mkdir, granted-remove}
use Rattle.marks.specs.declared.mark.Mark.{Mark}
use Rattle.marks.specs.declared.mark.Mark.TheVariants.{Whiteout, File, Dir, Opaque}
use Rattle.marks.specs.Marks.{MarkRow, is_opaque, cut, unless, see, merged, layered}
use Rattle.marks.specs.Edits.{lifted, written, made_dir, new_mode, shows_again, removed, marked, ProperDirs}
use Rattle.marks.specs.Plain.{note, clear, would_show, granted_plain, opaque_paths, plain_of}
use Rattle.marks.proofs.Cuts.{proper_alike}
use Rattle.marks.proofs.Merges.{at-merged, layer_parts, merged-closed}
use Rattle.marks.proofs.Writes.{written-here, written-above, written_apart, ascending-written}
use Rattle.marks.proofs.Counts.{above-not, same_paths}
use Rattle.marks.proofs.Grows.{dirs-above, dirs-without, at_dropped, ascending-without}
use Rattle.marks.proofs.Edited.{entries-marked}
use Rattle.marks.proofs.Noted.{writes, keys-written}

-- ---- the paths marked opaque

above-opaque : (j : Names) (m : List MarkRow) → Above j (keys m) → Above j (opaque_paths m)
above-opaque j [] h = tt
above-opaque j (r ∷ m) h = go (is_opaque (Some r.1)) (above-opaque j m h.1) where
  go : (t : Bool) → Above j (opaque_paths m) → Above j (cond t (r.0 ∷ opaque_paths m) (opaque_paths m))
  go true a = (h.0, a)
  go false a = a

ascends-opaque : (m : List MarkRow) → Ascends (keys m) → Ascends (opaque_paths m)
ascends-opaque [] h = tt
ascends-opaque (r ∷ m) h = go (is_opaque (Some r.1)) (ascends-opaque m h.1) where
  go : (t : Bool) → Ascends (opaque_paths m) → Ascends (cond t (r.0 ∷ opaque_paths m) (opaque_paths m))
  go true a = (above-opaque r.0 m h.0, a)
  go false a = a

pub among-opaque : (m : List MarkRow) → Ascends (keys m) → (q : Names) → among (opaque_paths m) q ≡ is_opaque (at m q)
among-opaque [] h q = refl
among-opaque (r ∷ m) h q =
    go (is_opaque (Some r.1)) (same q r.0) refl refl (among-opaque m h.1 q) ∙ sym (ap is_opaque (at-cons r m q)) where
      go : (t s : Bool) → is_opaque (Some r.1) ≡ t → same q r.0 ≡ s → among (opaque_paths m) q ≡ is_opaque (at m q) → among (cond t (r.0 ∷ opaque_paths m) (opaque_paths m)) q ≡ is_opaque (cond (same q r.0) (Some r.1) (at m q))
      go true true et es more = ap (λ b. b || among (opaque_paths m) q) es ∙ sym (ap is_opaque (cond-true (same q r.0) (Some r.1) (at m q) es) ∙ et)
      go true false et es more = ap (λ b. b || among (opaque_paths m) q) es ∙ more ∙ sym (ap is_opaque (cond-false (same q r.0) (Some r.1) (at m q) es))
      go false true et es more = ap (among (opaque_paths m)) (same_path q r.0 es) ∙ above-not r.0 (opaque_paths m) (above-opaque r.0 m h.0) ∙ sym (ap is_opaque (cond-true (same q r.0) (Some r.1) (at m q) es) ∙ et)
      go false false et es more = more ∙ sym (ap is_opaque (cond-false (same q r.0) (Some r.1) (at m q) es))

-- ---- paths cleared

among-clear : (p : Names) (ks : List Names) (q : Names) → among (clear p ks) q ≡ cond (under p q) false (among ks q)
among-clear p [] q = elim (under p q) as (λ t. false ≡ cond t false false) [ true ↦ refl | false ↦ refl ]
among-clear p (k ∷ ks) q = go (under p k) (same q k) (under p q) refl refl refl (among-clear p ks q) where
  go : (u s t : Bool) → under p k ≡ u → same q k ≡ s → under p q ≡ t → among (clear p ks) q ≡ cond (under p q) false (among ks q) → among (cond u (clear p ks) (k ∷ clear p ks)) q ≡ cond (under p q) false (same q k || among ks q)
  go true s true eu es et more = more ∙ cond-true (under p q) false (among ks q) et ∙ sym (cond-true (under p q) false (same q k || among ks q) et)
  go true true false eu es et more = absurd (true≢false (sym (ap (under p) (same_path q k es) ∙ eu) ∙ et))
  go true false false eu es et more = more ∙ ap (λ b. cond (under p q) false (b || among ks q)) (sym es)
  go false true true eu es et more = absurd (true≢false (sym et ∙ ap (under p) (same_path q k es) ∙ eu))
  go false true false eu es et more = ap (λ b. b || among (clear p ks) q) es ∙ sym (cond-false (under p q) false (same q k || among ks q) et ∙ ap (λ b. b || among ks q) es)
  go false false t eu es et more = ap (λ b. b || among (clear p ks) q) es ∙ more ∙ ap (λ b. cond (under p q) false (b || among ks q)) (sym es)

above-clear : (p j : Names) (ks : List Names) → Above j ks → Above j (clear p ks)
above-clear p j [] h = tt
above-clear p j (k ∷ ks) h = go (under p k) (above-clear p j ks h.1) where
  go : (t : Bool) → Above j (clear p ks) → Above j (cond t (clear p ks) (k ∷ clear p ks))
  go true a = a
  go false a = (h.0, a)

ascends-clear : (p : Names) (ks : List Names) → Ascends ks → Ascends (clear p ks)
ascends-clear p [] h = tt
ascends-clear p (k ∷ ks) h = go (under p k) (ascends-clear p ks h.1) where
  go : (t : Bool) → Ascends (clear p ks) → Ascends (cond t (clear p ks) (k ∷ clear p ks))
  go true a = a
  go false a = (above-clear p k ks h.0, a)

keys-without : (p : Names) (m : List MarkRow) → keys (without p m) ≡ clear p (keys m)
keys-without p [] = refl
keys-without p (r ∷ m) = go (under p r.0) (keys-without p m) where
  go : (t : Bool) → keys (without p m) ≡ clear p (keys m) → keys (cond (not t) (r ∷ without p m) (without p m)) ≡ cond t (clear p (keys m)) (r.0 ∷ clear p (keys m))
  go true h = h
  go false h = ap (λ ks. r.0 ∷ ks) h

-- ---- what would be seen again

shows_would : (m : List MarkRow) (e : List Row) → ascending m ≡ true → (p : Names) → shows_again m e p ≡ would_show (plain_of m e) p
shows_would m e up p =
    ap (λ b. has e p && not b) (proper_alike (λ q. is_opaque (at m q)) (among (opaque_paths m)) p (λ q n s w. sym (among-opaque m (ascends-keys m up) q)))

-- ---- the paths marked opaque after an edit

opaque-lifted : (x : Option Mark) (o : Option Entry) → is_opaque (lifted x o) ≡ is_opaque x
opaque-lifted None None = refl
opaque-lifted None (Some (entry.File f)) = refl
opaque-lifted None (Some (entry.Dir d)) = refl
opaque-lifted (Some x) o = refl

module _ (x : Mark) (m : List MarkRow) (e : List Row) (p : Names) (up : ascending m ≡ true) where
  rises : Ascends (keys (written x m e p))
  rises = ascends-keys (written x m e p) (ascending-written x m e p up)

  opaque-here : (q : Names) → same q p ≡ true → among (opaque_paths (written x m e p)) q ≡ is_opaque (Some x)
  opaque-here q s = among-opaque (written x m e p) rises q ∙ ap (λ z. is_opaque (at (written x m e p) z)) (same_path q p s) ∙ ap is_opaque (written-here x m e p)

  opaque_else : (q : Names) → same q p ≡ false → among (opaque_paths (written x m e p)) q ≡ among (opaque_paths m) q
  opaque_else q n =
      among-opaque (written x m e p) rises q
      ∙ ⊎_elim (λ u. ap is_opaque (written-above x m e p q n u) ∙ opaque-lifted (at m q) (at (merged m e) q)) (λ u. ap is_opaque (written_apart x m e p q u)) (cases_Bool (under q p))
      ∙ sym (among-opaque m (ascends-keys m up) q)

  -- a mark that is opaque as the old one was
  opaque-kept : is_opaque (Some x) ≡ is_opaque (at m p) → opaque_paths (written x m e p) ≡ opaque_paths m
  opaque-kept k =
      same_paths (opaque_paths (written x m e p)) (opaque_paths m) (ascends-opaque (written x m e p) rises) (ascends-opaque m (ascends-keys m up))
      (λ q. ⊎_elim (λ y. opaque-here q y.1 ∙ k ∙ ap (λ z. is_opaque (at m z)) (sym y.0) ∙ sym (among-opaque m (ascends-keys m up) q)) (opaque_else q) (told q p))

  -- one that is opaque
  opaque-made : is_opaque (Some x) ≡ true → opaque_paths (written x m e p) ≡ add (opaque_paths m) p
  opaque-made k =
      same_paths (opaque_paths (written x m e p)) (add (opaque_paths m) p) (ascends-opaque (written x m e p) rises) (ascends-add (opaque_paths m) p (ascends-opaque m (ascends-keys m up)))
      (λ q. ⊎_elim (λ y. opaque-here q y.1 ∙ k ∙ sym (ap (λ b. b || among (opaque_paths m) q) y.1)) (λ n. opaque_else q n ∙ sym (ap (λ b. b || among (opaque_paths m) q) n)) (told q p) ∙ sym (among-add (opaque_paths m) p q))

module _ (m : List MarkRow) (p : Names) (up : ascending m ≡ true) where
  opaque-without : opaque_paths (without p m) ≡ clear p (opaque_paths m)
  opaque-without =
      let rise = ascends-keys (without p m) (ascending-without m p up) in
      same_paths (opaque_paths (without p m)) (clear p (opaque_paths m)) (ascends-opaque (without p m) rise) (ascends-clear p (opaque_paths m) (ascends-opaque m (ascends-keys m up)))
      (λ q. among-opaque (without p m) rise q ∙ ap is_opaque (at-without p m q) ∙ go q (under p q) ∙ ap (cond (under p q) false) (sym (among-opaque m (ascends-keys m up) q)) ∙ sym (among-clear p (opaque_paths m) q)) where
        go : (q : Names) (t : Bool) → is_opaque (cond t None (at m q)) ≡ cond t false (is_opaque (at m q))
        go q true = refl
        go q false = refl

-- ---- a path that is removed

module _ (m : List MarkRow) (e : List Row) (lm : layered m ≡ true) (le : is_tree e ≡ true) (p : Names) where
  rise : ascending m ≡ true
  rise = (layer_parts m lm).0

  keys-removed : ProperDirs (merged m e) p → keys (removed m e p) ≡ cond (would_show (plain_of m e) p) (note p (clear p (keys m))) (clear p (keys m))
  unfolding removed
  keys-removed dirs = go (shows_again m e p) ∙ ap (λ b. cond b (note p (clear p (keys m))) (clear p (keys m))) (shows_would m e rise p) where
    go : (t : Bool) → keys (cond t (written Whiteout (without p m) e p) (without p m)) ≡ cond t (note p (clear p (keys m))) (clear p (keys m))
    go true = keys-written Whiteout (without p m) e p (dirs-without m e lm le p dirs) ∙ ap (union (prefixes p)) (keys-without p m)
    go false = keys-without p m

  opaque-removed : opaque_paths (removed m e p) ≡ clear p (opaque_paths m)
  unfolding removed
  opaque-removed = go (shows_again m e p) where
    go : (t : Bool) → opaque_paths (cond t (written Whiteout (without p m) e p) (without p m)) ≡ clear p (opaque_paths m)
    go true = opaque-kept Whiteout (without p m) e p (ascending-without m p rise) (sym (ap is_opaque (at_dropped m e lm le p p (under-itself p)))) ∙ opaque-without m p rise
    go false = opaque-without m p rise

-- ---- the plain map after a granted edit

not-opaque : (x : Option Mark) (o : Option Entry) → is_dir (see x o) ≡ false → is_opaque x ≡ false
not-opaque None o h = refl
not-opaque (Some Whiteout) o h = refl
not-opaque (Some (File f)) o h = refl
not-opaque (Some (Dir d)) o h = refl
not-opaque (Some (Opaque d)) o h = h

mode_opaque : (k : ℕ) (x : Option Mark) (o : Option Entry) → is_opaque (new_mode k x o) ≡ is_opaque x
mode_opaque k None None = refl
mode_opaque k None (Some (entry.File f)) = refl
mode_opaque k None (Some (entry.Dir d)) = refl
mode_opaque k (Some Whiteout) o = refl
mode_opaque k (Some (File f)) o = refl
mode_opaque k (Some (Dir d)) o = refl
mode_opaque k (Some (Opaque d)) o = refl

module _ (m : List MarkRow) (e : List Row) (lm : layered m ≡ true) (le : is_tree e ≡ true) (room need : ℕ) (p : Names) where
  up : ascending m ≡ true
  up = (layer_parts m lm).0

  dirs-there : has (merged m e) p ≡ true → ProperDirs (merged m e) p
  dirs-there h = dirs-above (merged m e) (merged-closed m e lm le) p h

  keys_wrote : (a : Action) → removes a ≡ false → refused_at (merged m e) room need p a ≡ None → keys (marked m e p a) ≡ note p (keys m)
  keys_wrote a r h = let w = writes m e lm le room need p a r h in ap keys w.after ∙ keys-written w.mark m e p w.dirs

  -- where nothing is seen, a mark is a whiteout
  remade-made : (k : ℕ) (x : Option Mark) → at m p ≡ x → has (merged m e) p ≡ false → opaque_paths (written (made_dir k x) m e p) ≡ cond (is_some x && not (has (merged m e) p)) (add (opaque_paths m) p) (opaque_paths m)
  remade-made k None f n = opaque-kept (Dir (record { mode = k })) m e p up (sym (ap is_opaque f))
  remade-made k (Some Whiteout) f n = opaque-made (Opaque (record { mode = k })) m e p up refl ∙ ap (λ b. cond (not b) (add (opaque_paths m) p) (opaque_paths m)) (sym n)
  remade-made k (Some (File g)) f n = absurd (true≢false (sym (ap is_some (at-merged m e p ∙ ap (λ z. see z (unless (cut (at m) p) (at e p))) f)) ∙ n))
  remade-made k (Some (Dir d)) f n = absurd (true≢false (sym (ap is_some (at-merged m e p ∙ ap (λ z. see z (unless (cut (at m) p) (at e p))) f)) ∙ n))
  remade-made k (Some (Opaque d)) f n = absurd (true≢false (sym (ap is_some (at-merged m e p ∙ ap (λ z. see z (unless (cut (at m) p) (at e p))) f)) ∙ n))

  pub plain-marked : (a : Action) → refused_at (merged m e) room need p a ≡ None → plain_of (marked m e p a) e ≡ granted_plain (plain_of m e) p a
  plain-marked (Put (entry.Dir d)) h = absurd (true≢false (sym (granted-put (merged m e) room need p (entry.Dir d) h).0))
  plain-marked (Put (entry.File f)) h =
      let own = entries-marked m e lm le p room need (Put (entry.File f)) h in
      let ns = keys_wrote (Put (entry.File f)) refl h in
      let g = (granted-put (merged m e) room need p (entry.File f) h).2 in
      let rs = opaque-kept (File f) m e p up (sym (not-opaque (at m p) (unless (cut (at m) p) (at e p)) (sym (ap is_dir (at-merged m e p)) ∙ g))) in
      λ i. record { lower = e; own = own i; noted = ns i; remade = rs i }
  plain-marked (Mkdir k) h =
      let own = entries-marked m e lm le p room need (Mkdir k) h in
      let ns = keys_wrote (Mkdir k) refl h in
      let g = (granted-mkdir (merged m e) room need p k h).2 in
      let rs = remade-made k (at m p) refl g ∙ ap (λ b. cond (b && not (has (merged m e) p)) (add (opaque_paths m) p) (opaque_paths m)) (among-has m p) in
      λ i. record { lower = e; own = own i; noted = ns i; remade = rs i }
  plain-marked (Chmod k) h =
      let own = entries-marked m e lm le p room need (Chmod k) h in
      let ns = keys_wrote (Chmod k) refl h in
      let w = writes m e lm le room need p (Chmod k) refl h in
      let rs = ap opaque_paths w.after ∙ opaque-kept w.mark m e p up (sym (ap is_opaque w.new) ∙ mode_opaque k (at m p) (at (merged m e) p)) in
      λ i. record { lower = e; own = own i; noted = ns i; remade = rs i }
  plain-marked Remove h =
      let own = entries-marked m e lm le p room need Remove h in
      let ns = keys-removed m e lm le p (dirs-there (granted-remove (merged m e) room need p h).1) in
      let rs = opaque-removed m e lm le p in
      λ i. record { lower = e; own = own i; noted = ns i; remade = rs i }
