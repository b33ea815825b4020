-- A row that may stand behind the rows seen. Assumes nothing.
use Rattle.std.proofs.Common.{◌≡◌, ◌<◌, true, cond, ltb, List, [], ◌∷◌, length, Some, Ok, Err, Result, sym, refl, ◌∙◌}
use Rattle.std.proofs.lemmas.Bool.{and_parts, cond-true, ltb-true, lt-ltb}
use Rattle.paths.proofs.Granted.{if_ok}
use Rattle.rows.specs.Maps.{Names, rises}
use Rattle.trees.specs.declared.entry.DirMeta.{DirMeta}
use Rattle.trees.specs.Entries.{fine}
use Rattle.marks.specs.declared.mark.Mark.{Mark}
use Rattle.marks.specs.declared.mark.Mark.TheVariants.{Dir, Opaque}
use Rattle.marks.specs.Marks.{MarkRow, marks_dir, ranged}
use Rattle.layer_fields.specs.declared.fault.Cause.{Cause}
use Rattle.layer_fields.specs.declared.fault.Cause.TheVariants as cause
use Rattle.layer_files.specs.Reads.{fitting, under_dir, placed}

pub record Placed (seen : List MarkRow) (r : MarkRow) : Type 0 where
  pub good : fine r.0 ≡ true
  pub fits : fitting r.0 r.1 ≡ true
  pub rise : rises seen r.0 ≡ true
  pub under : under_dir seen r.0 ≡ true
  pub few : length seen < 192

pub placed_ok : (seen : List MarkRow) (p : Names) (x : Mark) (r : MarkRow) → fine p ≡ true → placed seen p x ≡ Ok r → (◌≡◌ {A = MarkRow} (p, x) r) × Placed seen (p, x)
placed_ok seen p x r good h =
    let room : Result MarkRow Cause = cond (ltb (length seen) 192) (Ok (p, x)) (Err cause.TooMany) in
    let a = if_ok (fitting p x) (cond (rises seen p) (cond (under_dir seen p) room (Err cause.Parent)) (Err cause.Order)) cause.Value r h in
    let c = if_ok (rises seen p) (cond (under_dir seen p) room (Err cause.Parent)) cause.Order r a.1 in
    let d = if_ok (under_dir seen p) room cause.Parent r c.1 in
    let e = if_ok (ltb (length seen) 192) (Ok (p, x)) cause.TooMany r d.1 in
    let is : ◌≡◌ {A = MarkRow} (p, x) r = cc e.1 in
    (is, record { good = good; fits = a.0; rise = c.0; under = d.0; few = ltb-true (length seen) 192 e.0 })

pub placed_by : (seen : List MarkRow) (p : Names) (x : Mark) → Placed seen (p, x) → placed seen p x ≡ Ok (p, x)
placed_by seen p x k =
    cond-true (fitting p x) _ (Err cause.Value) k.fits
    ∙ cond-true (rises seen p) _ (Err cause.Order) k.rise
    ∙ cond-true (under_dir seen p) _ (Err cause.Parent) k.under
    ∙ cond-true (ltb (length seen) 192) (Ok (p, x)) (Err cause.TooMany) (lt-ltb (length seen) 192 k.few)

pub fits_ranged : (p : Names) (x : Mark) → fitting p x ≡ true → ranged x ≡ true
fits_ranged [] x h = (and_parts (ranged x) (marks_dir (Some x)) h).0
fits_ranged (n ∷ p) x h = h

fits_opaque : (p : Names) (d : DirMeta) → fitting p (Dir d) ≡ fitting p (Opaque d)
fits_opaque [] d = refl
fits_opaque (n ∷ p) d = refl

-- an opaque directory may stand where the directory may, and the other way round
module _ (seen : List MarkRow) (p : Names) (d : DirMeta) where
  pub opaque_placed : Placed seen (p, Dir d) → Placed seen (p, Opaque d)
  opaque_placed k = record { good = k.good; fits = sym (fits_opaque p d) ∙ k.fits; rise = k.rise; under = k.under; few = k.few }

  pub dir_placed : Placed seen (p, Opaque d) → Placed seen (p, Dir d)
  dir_placed k = record { good = k.good; fits = fits_opaque p d ∙ k.fits; rise = k.rise; under = k.under; few = k.few }
