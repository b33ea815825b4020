-- The plain map of a layer over a tree tells the whole layer. Assumes nothing.
use Rattle.std.proofs.Common.{◌≡◌, true, List, is_some, Some, None, Option, sym, refl, ap, ◌∙◌}
use Rattle.std.proofs.lemmas.Bool.{true≢false}
use Rattle.rows.specs.Maps.{Names, at, ascending}
use Rattle.rows.specs.Builds.{among}
use Rattle.rows.proofs.Built.{ascends-keys, among-has, same_rows}
use Rattle.trees.specs.declared.entry.Entry.{Entry}
use Rattle.trees.specs.Entries.{Row}
use Rattle.marks.specs.declared.mark.Mark.{Mark}
use Rattle.marks.specs.declared.mark.Mark.TheVariants.{Whiteout, File, Dir, Opaque}
use Rattle.marks.specs.Marks.{MarkRow, entry_of, is_opaque, cut, unless, see, layered}
use Rattle.marks.specs.Plain.{Plain, plain_of}
use Rattle.marks.proofs.Merges.{at-merged, layer_parts}
use Rattle.marks.proofs.Remade.{among-opaque}

-- two marks with one entry, both opaque or neither
same_mark : (x y : Mark) → is_opaque (Some x) ≡ is_opaque (Some y) → entry_of x ≡ entry_of y → x ≡ y
same_mark Whiteout Whiteout o e = refl
same_mark Whiteout (File g) o e = cc
same_mark Whiteout (Dir g) o e = cc
same_mark Whiteout (Opaque g) o e = cc
same_mark (File f) Whiteout o e = cc
same_mark (File f) (File g) o e = cc
same_mark (File f) (Dir g) o e = cc
same_mark (File f) (Opaque g) o e = cc
same_mark (Dir f) Whiteout o e = cc
same_mark (Dir f) (File g) o e = cc
same_mark (Dir f) (Dir g) o e = cc
same_mark (Dir f) (Opaque g) o e = absurd (true≢false (sym o))
same_mark (Opaque f) Whiteout o e = cc
same_mark (Opaque f) (File g) o e = cc
same_mark (Opaque f) (Dir g) o e = absurd (true≢false o)
same_mark (Opaque f) (Opaque g) o e = cc

alike : (x y : Option Mark) (u v : Option Entry) → is_some x ≡ is_some y → is_opaque x ≡ is_opaque y → see x u ≡ see y v → x ≡ y
alike None None u v i o e = refl
alike None (Some y) u v i o e = absurd (true≢false (sym i))
alike (Some x) None u v i o e = absurd (true≢false i)
alike (Some x) (Some y) u v i o e = ap Some (same_mark x y o e)

module _ (m n : List MarkRow) (e : List Row) (lm : layered m ≡ true) (ln : layered n ≡ true) (h : plain_of m e ≡ plain_of n e) where
  up_m : ascending m ≡ true
  up_m = (layer_parts m lm).0

  up_n : ascending n ≡ true
  up_n = (layer_parts n ln).0

  same_at : (p : Names) → at m p ≡ at n p
  same_at p =
      alike (at m p) (at n p) (unless (cut (at m) p) (at e p)) (unless (cut (at n) p) (at e p))
      (among-has m p ∙ ap (λ (s : Plain). among s.noted p) h ∙ sym (among-has n p))
      (sym (among-opaque m (ascends-keys m up_m) p) ∙ ap (λ (s : Plain). among s.remade p) h ∙ among-opaque n (ascends-keys n up_n) p)
      (sym (at-merged m e p) ∙ ap (λ (s : Plain). at s.own p) h ∙ at-merged n e p)

  pub plain_tells : m ≡ n
  plain_tells = same_rows m n up_m up_n same_at
