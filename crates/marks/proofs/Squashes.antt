-- A squash of two layers is a layer, and does what they do one over the other. Assumes nothing.
use Rattle.std.proofs.Common.{◌≡◌, ◌+◌, ◌≤◌, Bool, true, false, ◌||◌, List, [], ◌∷◌, length, is_some, Some, None, Option, sym, refl, ap, ◌∙◌, subst, arith}
use Rattle.std.proofs.Math.Bool.{or-true}
use Rattle.std.proofs.lemmas.Bool.{true≢false, and_from}
use Rattle.rows.specs.Maps.{Names, at, has, ascending}
use Rattle.rows.specs.Builds.{keys, union}
use Rattle.rows.proofs.Built.{ascends-keys, same_rows}
use Rattle.trees.specs.declared.entry.Entry.TheVariants as entry
use Rattle.trees.specs.declared.entry.DirMeta.{DirMeta}
use Rattle.trees.specs.Entries.{Row, is_dir, in_range}
use Rattle.trees.proofs.Grown.{grown_by}
use Rattle.marks.specs.declared.mark.Mark.{Mark}
use Rattle.marks.specs.declared.mark.Mark.TheVariants.{Whiteout, File, Dir, Opaque}
use Rattle.marks.specs.Marks.{MarkRow, stops, marks_dir, ranged, below, cut, unless, see, laid, merged, sound, layered}
use Rattle.marks.specs.Squash.{over, squashed}
use Rattle.marks.proofs.Cuts.{cut_alike, cut_nowhere}
use Rattle.marks.proofs.Counts.{length-keys, length_has, length-build, length_union, missing_most}
use Rattle.marks.proofs.Lays.{Joins, none_either, lay, ascending-lay, at-lay, lay-sound}
use Rattle.marks.proofs.Merges.{see-joins, layer_parts}

-- ---- one mark over another

over-none : (x : Option Mark) → over x None ≡ x
over-none None = refl
over-none (Some Whiteout) = refl
over-none (Some (File f)) = refl
over-none (Some (Dir d)) = refl
over-none (Some (Opaque d)) = refl

-- it stops what either stops
stops-over : (x y : Option Mark) → stops (over x y) ≡ (stops x || stops y)
stops-over None y = refl
stops-over (Some Whiteout) y = refl
stops-over (Some (File f)) y = refl
stops-over (Some (Dir d)) None = refl
stops-over (Some (Dir d)) (Some Whiteout) = refl
stops-over (Some (Dir d)) (Some (File f)) = refl
stops-over (Some (Dir d)) (Some (Dir k)) = refl
stops-over (Some (Dir d)) (Some (Opaque k)) = refl
stops-over (Some (Opaque d)) y = refl

-- what a property says of both kinds of directory it says of a directory over any mark
over_dir : (P : Option Mark → Type 0) (d : DirMeta) (y : Option Mark) → P (Some (Dir d)) → P (Some (Opaque d)) → P (over (Some (Dir d)) y)
over_dir P d None a b = a
over_dir P d (Some Whiteout) a b = b
over_dir P d (Some (File f)) a b = b
over_dir P d (Some (Dir k)) a b = a
over_dir P d (Some (Opaque k)) a b = b

pub over-there : (x y : Option Mark) → is_some x ≡ true → is_some (over x y) ≡ true
over-there None y h = absurd (true≢false (sym h))
over-there (Some Whiteout) y h = refl
over-there (Some (File f)) y h = refl
over-there (Some (Dir d)) y h = over_dir (λ o. is_some o ≡ true) d y refl refl
over-there (Some (Opaque d)) y h = refl

marks_dir-over : (x y : Option Mark) → marks_dir x ≡ true → marks_dir (over x y) ≡ true
marks_dir-over None y h = absurd (true≢false (sym h))
marks_dir-over (Some Whiteout) y h = h
marks_dir-over (Some (File f)) y h = h
marks_dir-over (Some (Dir d)) y h = over_dir (λ o. marks_dir o ≡ true) d y refl refl
marks_dir-over (Some (Opaque d)) y h = refl

lower-over : (x y : Option Mark) → stops x ≡ false → marks_dir y ≡ true → marks_dir (over x y) ≡ true
lower-over None y s h = h
lower-over (Some Whiteout) y s h = absurd (true≢false s)
lower-over (Some (File f)) y s h = absurd (true≢false s)
lower-over (Some (Dir d)) y s h = over_dir (λ o. marks_dir o ≡ true) d y refl refl
lower-over (Some (Opaque d)) y s h = absurd (true≢false s)

ranged_some : (x v : Mark) → ranged x ≡ true → ◌≡◌ {A = Option Mark} (Some x) (Some v) → ranged v ≡ true
ranged_some x v r e = let s : x ≡ v = cc in subst (λ z. ranged z ≡ true) s r

over_ranged : (x : Mark) (y : Option Mark) (v : Mark) → ranged x ≡ true → over (Some x) y ≡ Some v → ranged v ≡ true
over_ranged Whiteout y v r e = ranged_some Whiteout v r e
over_ranged (File f) y v r e = ranged_some (File f) v r e
over_ranged (Dir d) y v r e = over_dir (λ o. o ≡ Some v → ranged v ≡ true) d y (ranged_some (Dir d) v r) (ranged_some (Opaque d) v r) e
over_ranged (Opaque d) y v r e = ranged_some (Opaque d) v r e

over-joins : Joins over ranged marks_dir
over-joins = record { none = λ y. refl; sets = over_ranged; upper = marks_dir-over; lower = lower-over }

-- ---- what is cut off

either : (s k x a b : Bool) → (s || x) ≡ (s || (a || b)) → ((s || k) || x) ≡ ((s || a) || (k || b))
either true k x a b h = refl
either false true x a b h = sym (or-true a)
either false false x a b h = h

-- where b says that something above stops already
abbrev laid_from : {N : Type 0} → Bool → (List N → Option Mark) → (List N → Option Mark) → List N → Option Mark
laid_from b u l p = over (u p) (unless (b || cut u p) (l p))

cut-laid : {N : Type 0} (p : List N) (b : Bool) (u l : List N → Option Mark) → (b || cut (laid_from b u l) p) ≡ (b || (cut u p || cut l p))
cut-laid [] b u l = refl
cut-laid (n ∷ p) true u l = refl
cut-laid (n ∷ p) false u l =
    let rest = cut (laid_from (stops (u [])) (below u n) (below l n)) p in
    ap (λ t. t || rest) (stops-over (u []) (l []))
    ∙ either (stops (u [])) (stops (l [])) rest (cut (below u n) p) (cut (below l n) p) (cut-laid p (stops (u [])) (below u n) (below l n))

pub at-squashed : (u l : List MarkRow) (q : Names) → at (squashed u l) q ≡ laid over (at u) (at l) q
unfolding squashed
at-squashed = at-lay over ranged marks_dir over-joins

-- a squash cuts off what either layer cuts off
pub cut-squashed : (u l : List MarkRow) (p : Names) → cut (at (squashed u l)) p ≡ (cut (at u) p || cut (at l) p)
cut-squashed u l p =
    cut_alike (at (squashed u l)) (laid over (at u) (at l)) p (λ r n s e. ap stops (at-squashed u l r))
    ∙ cut-laid p false (at u) (at l)

-- ---- it is a layer

pub ascending-squashed : (u l : List MarkRow) → ascending l ≡ true → ascending (squashed u l) ≡ true
unfolding squashed
ascending-squashed = ascending-lay over

squashed-sound : (u l : List MarkRow) → sound u u ≡ true → sound l l ≡ true → ascending l ≡ true → sound (squashed u l) (squashed u l) ≡ true
unfolding squashed
squashed-sound u l a b up = grown_by ranged marks_dir (squashed u l) (ascending-squashed u l up) (lay-sound over ranged marks_dir over-joins u l a b)

pub layered-squashed : (u l : List MarkRow) → layered u ≡ true → layered l ≡ true → layered (squashed u l) ≡ true
layered-squashed u l a b =
    let d = layer_parts l b in
    and_from (ascending (squashed u l)) (sound (squashed u l) (squashed u l)) (ascending-squashed u l d.0) (squashed-sound u l (layer_parts u a).1 d.1 d.0)

-- ---- laid over what lies below, it is one layer over the other

-- a join lays marks over marks as it lays them one by one
abbrev Acts : {V : Type 0} → (Option Mark → Option V → Option V) → Type 0
Acts {V} join = (x y : Option Mark) (c d : Bool) (z : Option V) → join (over x (unless c y)) (unless (c || d) z) ≡ join x (unless c (join y (unless d z)))

module _ {V : Type 0} (join : Option Mark → Option V → Option V) (passes : V → Bool) (dir : Option V → Bool) (j : Joins join passes dir) (acts : Acts join) (u l : List MarkRow) (e : List (Names × V)) where
  at-both : (q : Names) → at (lay join (squashed u l) e) q ≡ at (lay join u (lay join l e)) q
  at-both q =
      at-lay join passes dir j (squashed u l) e q
      ∙ ap (λ x. join x (unless (cut (at (squashed u l)) q) (at e q))) (at-squashed u l q)
      ∙ ap (λ b. join (laid over (at u) (at l) q) (unless b (at e q))) (cut-squashed u l q)
      ∙ acts (at u q) (at l q) (cut (at u) q) (cut (at l) q) (at e q)
      ∙ ap (λ z. join (at u q) (unless (cut (at u) q) z)) (sym (at-lay join passes dir j l e q))
      ∙ sym (at-lay join passes dir j u (lay join l e) q)

  lay-squashed : ascending e ≡ true → lay join (squashed u l) e ≡ lay join u (lay join l e)
  lay-squashed up =
      same_rows (lay join (squashed u l) e) (lay join u (lay join l e)) (ascending-lay join (squashed u l) e up) (ascending-lay join u (lay join l e) (ascending-lay join l e up)) at-both

see_acts : Acts see
see_acts None y true d z = refl
see_acts None y false d z = refl
see_acts (Some Whiteout) y c d z = refl
see_acts (Some (File f)) y c d z = refl
see_acts (Some (Dir k)) y c d z = over_dir (λ o. see o (unless (c || d) z) ≡ Some (entry.Dir k)) k (unless c y) refl refl
see_acts (Some (Opaque k)) y c d z = refl

over_three : (k : DirMeta) (y z : Option Mark) → over (over (Some (Dir k)) y) z ≡ over (Some (Dir k)) (over y z)
over_three k None z = refl
over_three k (Some Whiteout) z = refl
over_three k (Some (File f)) z = refl
over_three k (Some (Dir d)) None = refl
over_three k (Some (Dir d)) (Some Whiteout) = refl
over_three k (Some (Dir d)) (Some (File f)) = refl
over_three k (Some (Dir d)) (Some (Dir g)) = refl
over_three k (Some (Dir d)) (Some (Opaque g)) = refl
over_three k (Some (Opaque d)) z = refl

over_acts : Acts over
over_acts None y true d z = refl
over_acts None y false d z = refl
over_acts (Some Whiteout) y c d z = refl
over_acts (Some (File f)) y c d z = refl
over_acts (Some (Dir k)) y true d z = refl
over_acts (Some (Dir k)) y false d z = over_three k y (unless d z)
over_acts (Some (Opaque k)) y c d z = refl

pub merged-squashed : (u l : List MarkRow) (e : List Row) → ascending e ≡ true → merged (squashed u l) e ≡ merged u (merged l e)
unfolding merged
merged-squashed = lay-squashed see in_range is_dir see-joins see_acts

pub squashed-squashed : (u l k : List MarkRow) → ascending k ≡ true → squashed (squashed u l) k ≡ squashed u (squashed l k)
unfolding squashed
squashed-squashed = lay-squashed over ranged marks_dir over-joins over_acts

-- ---- the layer without rows

pub squashed-empty : (u : List MarkRow) → ascending u ≡ true → squashed u [] ≡ u
squashed-empty u up =
    same_rows (squashed u []) u (ascending-squashed u [] refl) up
    (λ q. at-squashed u [] q ∙ ap (over (at u q)) (none_either (cut (at u) q)) ∙ over-none (at u q))

pub empty-squashed : (l : List MarkRow) → ascending l ≡ true → squashed [] l ≡ l
empty-squashed l up =
    same_rows (squashed [] l) l (ascending-squashed [] l up) up
    (λ q. at-squashed [] l q ∙ ap (λ b. unless b (at l q)) (cut_nowhere q))

-- ---- how many rows it has

-- each row of the upper layer stays
has-squashed : (u l : List MarkRow) (q : Names) → has u q ≡ true → has (squashed u l) q ≡ true
has-squashed u l q h = ap is_some (at-squashed u l q) ∙ over-there (at u q) (unless (cut (at u) q) (at l q)) h

pub squashed_least : (u l : List MarkRow) → ascending u ≡ true → ascending l ≡ true → length u ≤ length (squashed u l)
squashed_least u l a b = length_has (squashed u l) u (ascending-squashed u l b) a (has-squashed u l)

pub squashed_most : (u l : List MarkRow) → ascending u ≡ true → ascending l ≡ true → length (squashed u l) ≤ length u + length l
unfolding squashed
squashed_most u l a b =
    let all = length-build (laid over (at u) (at l)) (union (keys u) (keys l)) in
    let both = length_union (keys u) (keys l) (ascends-keys u a) (ascends-keys l b) in
    let more = missing_most (keys l) (keys u) in
    omega (arith, all, both, more, length-keys u, length-keys l)
