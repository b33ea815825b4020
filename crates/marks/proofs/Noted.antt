-- What paths have marks after an edit, and how many. Assumes nothing.
use Rattle.std.proofs.Common.{◌≡◌, ℕ, suc, ◌+◌, ◌≤◌, Bool, true, false, cond, List, [], ◌∷◌, length, is_some, Some, None, Option, sym, refl, ap, ◌∙◌, ⊎_elim, arith}
use Rattle.std.proofs.lemmas.Bool.{true≢false, or_left, or_right, or_cases}
use Rattle.paths.specs.Names.{prefixes}
use Rattle.paths.proofs.Joins.{prefixes_long}
use Rattle.rows.specs.Maps.{Names, at, has, ascending, under, without}
use Rattle.rows.specs.Builds.{same, among, keys, union}
use Rattle.rows.proofs.Built.{among-union, among-has, ascends-keys, ascends-union, keys-build}
use Rattle.rows.proofs.Unders.{among-prefixes}
use Rattle.rows.proofs.Changed.{at-without}
use Rattle.trees.specs.declared.entry.Entry.{Entry}
use Rattle.trees.specs.declared.entry.Entry.TheVariants as entry
use Rattle.trees.specs.Entries.{Row, is_dir, is_tree}
use Rattle.edits.specs.declared.action.Action.{Action}
use Rattle.edits.specs.declared.action.Action.TheVariants.{Put, Mkdir, Chmod, Remove}
use Rattle.edits.specs.Edits.{removes, refused_at}
use Rattle.edits.proofs.Granted.{granted-put, granted-mkdir, granted-chmod}
use Rattle.marks.specs.declared.mark.Mark.{Mark}
use Rattle.marks.specs.declared.mark.Mark.TheVariants.{Whiteout, File, Dir, Opaque}
use Rattle.marks.specs.Marks.{MarkRow, cut, unless, see, merged, layered}
use Rattle.marks.specs.Edits.{lifted, write_at, written, made_dir, new_mode, new_mark, write_some, shows_again, removed, marked, lacking, lacks, ProperDirs}
use Rattle.marks.specs.Plain.{missing, unnoted}
use Rattle.marks.proofs.Merges.{at-merged, layer_parts, merged-closed}
use Rattle.marks.proofs.Grows.{dirs-above, dirs-parent, ascending-without}
use Rattle.marks.proofs.Counts.{length_union, length-within, length-keys, length-build, ascends-prefixes, missing-none, missing_most}

-- ---- the need, by the paths alone

lacking-missing : (m : List MarkRow) (qs : List Names) → lacking m qs ≡ missing (keys m) qs
lacking-missing m [] = refl
lacking-missing m (q ∷ qs) =
    ap (λ t. cond t (lacking m qs) (suc (lacking m qs))) (among-has m q)
    ∙ ap (λ n. cond (among (keys m) q) n (suc n)) (lacking-missing m qs)

pub lacks-unnoted : (m : List MarkRow) (p : Names) → lacks m p ≡ unnoted (keys m) p
lacks-unnoted m p = lacking-missing m (prefixes p)

pub lacks_most : (m : List MarkRow) (p : Names) → lacks m p ≤ length p + 1
lacks_most m p = let a = lacks-unnoted m p in let b = missing_most (keys m) (prefixes p) in let c = prefixes_long p in omega arith

-- ---- the paths of written marks

length-noted : (m : List MarkRow) (p : Names) → ascending m ≡ true → length (union (prefixes p) (keys m)) ≡ length m + lacks m p
length-noted m p up =
    let a = length_union (prefixes p) (keys m) (ascends-prefixes p) (ascends-keys m up) in
    let b = length-keys m in
    let c = lacks-unnoted m p in
    omega arith

lifted-some : (x : Option Mark) (o : Option Entry) → is_dir o ≡ true → is_some (lifted x o) ≡ true
lifted-some None None h = h
lifted-some None (Some (entry.File f)) h = h
lifted-some None (Some (entry.Dir d)) h = refl
lifted-some (Some x) o h = refl

module _ (x : Mark) (m : List MarkRow) (e : List Row) (p : Names) where
  wrote : ProperDirs (merged m e) p → (q : Names) → among (union (prefixes p) (keys m)) q ≡ true → is_some (write_at x (at m) (at (merged m e)) p q) ≡ true
  wrote dirs q i = go (same q p) (under q p) refl refl where
    go : (s u : Bool) → same q p ≡ s → under q p ≡ u → is_some (cond s (Some x) (cond u (lifted (at m q) (at (merged m e) q)) (at m q))) ≡ true
    go true u es eu = refl
    go false true es eu = lifted-some (at m q) (at (merged m e) q) (dirs q eu es)
    go false false es eu =
        ⊎_elim
        (λ a. absurd (true≢false (sym a ∙ among-prefixes p q ∙ eu)))
        (λ a. among-has m q ∙ a)
        (or_cases (among (prefixes p) q) (among (keys m) q) (sym (among-union (prefixes p) (keys m) q) ∙ i))

  pub keys-written : ProperDirs (merged m e) p → keys (written x m e p) ≡ union (prefixes p) (keys m)
  unfolding written
  keys-written dirs = keys-build (write_at x (at m) (at (merged m e)) p) (union (prefixes p) (keys m)) (wrote dirs)

  pub length-written : ascending m ≡ true → ProperDirs (merged m e) p → length (written x m e p) ≡ length m + lacks m p
  length-written up dirs = sym (length-keys (written x m e p)) ∙ ap length (keys-written dirs) ∙ length-noted m p up

  length_most : length (written x m e p) ≤ length (union (prefixes p) (keys m))
  unfolding written
  length_most = length-build (write_at x (at m) (at (merged m e)) p) (union (prefixes p) (keys m))

  lacks-written : ProperDirs (merged m e) p → lacks (written x m e p) p ≡ 0
  lacks-written dirs =
      lacks-unnoted (written x m e p) p
      ∙ missing-none (keys (written x m e p)) (prefixes p) (λ q i. ap (λ ks. among ks q) (keys-written dirs) ∙ among-union (prefixes p) (keys m) q ∙ or_left (among (prefixes p) q) (among (keys m) q) i)

-- ---- the paths of marks without those under a path

has-without : (m : List MarkRow) (p q : Names) → has (without p m) q ≡ true → has m q ≡ true
has-without m p q h = go (under p q) (sym (ap is_some (at-without p m q)) ∙ h) where
  go : (t : Bool) → is_some (cond t None (at m q)) ≡ true → has m q ≡ true
  go true k = absurd (true≢false (sym k))
  go false k = k

among-without : (m : List MarkRow) (p q : Names) → among (keys (without p m)) q ≡ true → among (keys m) q ≡ true
among-without m p q h = sym (among-has m q) ∙ has-without m p q (among-has (without p m) q ∙ h)

length_without : (m : List MarkRow) (p : Names) → ascending m ≡ true → length (union (prefixes p) (keys (without p m))) ≤ length (union (prefixes p) (keys m))
length_without m p up =
    length-within (union (prefixes p) (keys m)) (union (prefixes p) (keys (without p m))) (ascends-union (prefixes p) (keys m) (ascends-keys m up)) (ascends-union (prefixes p) (keys (without p m)) (ascends-keys (without p m) (ascending-without m p up)))
    (λ q i. among-union (prefixes p) (keys m) q ∙ ⊎_elim (λ a. or_left (among (prefixes p) q) (among (keys m) q) a) (λ a. or_right (among (prefixes p) q) (among (keys m) q) (among-without m p q a)) (or_cases (among (prefixes p) q) (among (keys (without p m)) q) (sym (among-union (prefixes p) (keys (without p m)) q) ∙ i)))

-- ---- how many marks there are after an edit

module _ (m : List MarkRow) (e : List Row) (p : Names) (up : ascending m ≡ true) where
  most_written : (o : Option Mark) → length (write_some o m e p) ≤ length m + lacks m p
  most_written None = omega arith
  most_written (Some x) = let a = length_most x m e p in let b = length-noted m p up in omega arith

  most_removed : length (removed m e p) ≤ length m + lacks m p
  unfolding removed
  most_removed = go (shows_again m e p) where
    fewer : length (without p m) ≤ length m
    fewer =
        let a = length-within (keys m) (keys (without p m)) (ascends-keys m up) (ascends-keys (without p m) (ascending-without m p up)) (among-without m p) in
        let b = length-keys m in
        let c = length-keys (without p m) in
        omega arith

    go : (t : Bool) → length (cond t (written Whiteout (without p m) e p) (without p m)) ≤ length m + lacks m p
    go true = let a = length_most Whiteout (without p m) e p in let b = length_without m p up in let c = length-noted m p up in omega arith
    go false = let a = fewer in omega arith

  -- an edit, granted or not, takes at most what its path lacks
  pub length_marked : (a : Action) → length (marked m e p a) ≤ length m + lacks m p
  length_marked (Put x) = most_written (new_mark (Put x) (at m p) (at (merged m e) p))
  length_marked (Mkdir k) = most_written (new_mark (Mkdir k) (at m p) (at (merged m e) p))
  length_marked (Chmod k) = most_written (new_mark (Chmod k) (at m p) (at (merged m e) p))
  length_marked Remove = most_removed

-- a mode is changed of what is seen, and that is a mark again
mode_some : (k : ℕ) (x : Option Mark) (o : Option Entry) → is_some (see x o) ≡ true → (y : Mark) × (new_mode k x (see x o) ≡ Some y)
mode_some k None None h = absurd (true≢false (sym h))
mode_some k None (Some (entry.File f)) h = (File (record { mode = k; size = f.size; content = f.content }), refl)
mode_some k None (Some (entry.Dir d)) h = (Dir (record { mode = k }), refl)
mode_some k (Some Whiteout) o h = absurd (true≢false (sym h))
mode_some k (Some (File f)) o h = (File (record { mode = k; size = f.size; content = f.content }), refl)
mode_some k (Some (Dir d)) o h = (Dir (record { mode = k }), refl)
mode_some k (Some (Opaque d)) o h = (Opaque (record { mode = k }), refl)

-- the mark that a granted edit writes
pub record Writes (m : List MarkRow) (e : List Row) (p : Names) (a : Action) : Type 0 where
  pub mark : Mark
  pub new : new_mark a (at m p) (at (merged m e) p) ≡ Some mark
  pub after : marked m e p a ≡ written mark m e p
  pub dirs : ProperDirs (merged m e) p

module _ (m : List MarkRow) (e : List Row) (lm : layered m ≡ true) (le : is_tree e ≡ true) (room need : ℕ) (p : Names) where
  pub writes : (a : Action) → removes a ≡ false → refused_at (merged m e) room need p a ≡ None → Writes m e p a
  writes (Put (entry.File f)) r h =
      let g = granted-put (merged m e) room need p (entry.File f) h in
      record { mark = File f; new = refl; after = refl; dirs = dirs-parent (merged m e) (merged-closed m e lm le) p g.1.under }
  writes (Put (entry.Dir d)) r h = absurd (true≢false (sym (granted-put (merged m e) room need p (entry.Dir d) h).0))
  writes (Mkdir k) r h =
      let g = granted-mkdir (merged m e) room need p k h in
      record { mark = made_dir k (at m p); new = refl; after = refl; dirs = dirs-parent (merged m e) (merged-closed m e lm le) p g.1.under }
  writes (Chmod k) r h =
      let g = granted-chmod (merged m e) room need p k h in
      let y = mode_some k (at m p) (unless (cut (at m) p) (at e p)) (sym (ap is_some (at-merged m e p)) ∙ g.1) in
      let n = ap (new_mode k (at m p)) (at-merged m e p) ∙ y.1 in
      record { mark = y.0; new = n; after = ap (λ o. write_some o m e p) n; dirs = dirs-above (merged m e) (merged-closed m e lm le) p g.1 }
  writes Remove r h = absurd (true≢false r)

  -- a granted edit that removes nothing takes just what its path lacks, which then lacks nothing
  pub length-granted : (a : Action) → removes a ≡ false → refused_at (merged m e) room need p a ≡ None → length (marked m e p a) ≡ length m + lacks m p
  length-granted a r h = let w = writes a r h in ap length w.after ∙ length-written w.mark m e p (layer_parts m lm).0 w.dirs

  pub lacks-granted : (a : Action) → removes a ≡ false → refused_at (merged m e) room need p a ≡ None → lacks (marked m e p a) p ≡ 0
  lacks-granted a r h = let w = writes a r h in ap (λ n. lacks n p) w.after ∙ lacks-written w.mark m e p w.dirs
