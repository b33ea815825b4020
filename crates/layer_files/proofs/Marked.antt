-- A row with the marker that may follow it. Assumes nothing.
use Rattle.std.proofs.Common.{◌≡◌, ℕ, ◌+◌, Bool, true, false, cond, List, Some, None, Ok, Err, Option, Result, sym, refl, ap, ◌∙◌}
use Rattle.paths.specs.Steps.{and_then}
use Rattle.rows.specs.Maps.{Names}
use Rattle.trees.specs.declared.entry.DirMeta.{DirMeta}
use Rattle.marks.specs.declared.mark.Mark.{Mark}
use Rattle.marks.specs.declared.mark.Mark.TheVariants.{Whiteout, File, Dir, Opaque}
use Rattle.layer_fields.specs.declared.fault.LayerFault.{LayerFault}
use Rattle.layer_fields.specs.Fields.{Field, span}
use Rattle.layer_files.specs.Reads.{taken, whiteout_span, Step, marker_at, opaque_if, marked_row}
use Rattle.layer_files.specs.Readers.{past_marker, opaque_at}

-- a directory is opaque if its marker follows
dir_marked : (p : Names) (d : DirMeta) (bs : List ℕ) (at : ℕ) → marked_row bs ((p, Dir d), at) ≡ and_then {B = Step} (opaque_at p bs at) (λ b. Ok ((p, cond b.0 (Opaque d) (Dir d)), b.1))
dir_marked p d bs at = go (marker_at p bs at) where
  more : (f : Field) (r : Result ℕ LayerFault) → and_then {B = Step} r (λ n. Ok ((p, Opaque d), at + span f + n)) ≡ and_then {B = Step} (and_then {B = Bool × ℕ} r (λ n. Ok (true, at + span f + n))) (λ b. Ok ((p, cond b.0 (Opaque d) (Dir d)), b.1))
  more f (Ok n) = refl
  more f (Err e) = refl

  go : (o : Option Field) → opaque_if p (Dir d) at bs o ≡ and_then {B = Step} (past_marker bs at o) (λ b. Ok ((p, cond b.0 (Opaque d) (Dir d)), b.1))
  go None = refl
  go (Some f) = more f (taken whiteout_span bs (at + span f))

module _ (p : Names) (x : Mark) (d : DirMeta) (bs : List ℕ) (at : ℕ) (is : x ≡ Dir d) where
  dir_by : (r : Result (Bool × ℕ) LayerFault) → opaque_at p bs at ≡ r → marked_row bs ((p, x), at) ≡ and_then {B = Step} r (λ b. Ok ((p, cond b.0 (Opaque d) (Dir d)), b.1))
  dir_by r h = ap (λ y. marked_row bs ((p, y), at)) is ∙ dir_marked p d bs at ∙ ap (λ r. and_then {B = Step} r (λ b. Ok ((p, cond b.0 (Opaque d) (Dir d)), b.1))) h

  pub dir_fails : (e : LayerFault) → opaque_at p bs at ≡ Err e → marked_row bs ((p, x), at) ≡ Err e
  dir_fails e h = dir_by (Err e) h

  module _ (b : Bool) (n : ℕ) (h : opaque_at p bs at ≡ Ok (b, n)) where
    pub dir_stays : b ≡ false → marked_row bs ((p, x), at) ≡ Ok ((p, x), n)
    dir_stays f = dir_by (Ok (b, n)) h ∙ ap (λ t. Ok ((p, cond t (Opaque d) (Dir d)), n)) f ∙ ap (λ y. Ok ((p, y), n)) (sym is)

    pub dir_turns : b ≡ true → marked_row bs ((p, x), at) ≡ Ok ((p, Opaque d), n)
    dir_turns f = dir_by (Ok (b, n)) h ∙ ap (λ t. Ok ((p, cond t (Opaque d) (Dir d)), n)) f

-- any other row has no marker
pub other_marked : (p : Names) (x : Mark) (bs : List ℕ) (at : ℕ) → ((d : DirMeta) → x ≡ Dir d → ⊥) → marked_row bs ((p, x), at) ≡ Ok ((p, x), at)
other_marked p x bs at n = go x n (marker_at p bs at) where
  go : (x : Mark) → ((d : DirMeta) → x ≡ Dir d → ⊥) → (o : Option Field) → opaque_if p x at bs o ≡ Ok ((p, x), at)
  go Whiteout n None = refl
  go Whiteout n (Some f) = refl
  go (File e) n None = refl
  go (File e) n (Some f) = refl
  go (Opaque e) n None = refl
  go (Opaque e) n (Some f) = refl
  go (Dir d) n o = absurd (n d refl)
