-- How the making of a refit ends. Assumes nothing.
use Rattle.std.proofs.Common.{◌≡◌, ℕ, List, [], Ok, Err, Result, sym, refl, ap, ◌∙◌, subst}
use Rattle.trees.specs.Entries.{Row}
use Rattle.trees.specs.declared.fault.Fault.{Fault}
use Rattle.marks.specs.Marks.{MarkRow}
use Rattle.archive.specs.Groups.{grouped}
use Rattle.scripts.specs.Scripts.{Requests}
use Rattle.reports.specs.declared.refusal.Reason.TheVariants.{Tree}
use Rattle.reports.specs.Refusals.{refusal}
use Rattle.refits.specs.declared.making.Made.{Made}
use Rattle.refits.specs.declared.stop.Stop.{Stop}
use Rattle.refits.specs.declared.stop.Stop.TheVariants.{Refused, Memory}
use Rattle.refits.specs.Judging.{squash_name, or_line, squash_in}
use Rattle.refits.specs.Steps.{Says, Stops, Gives, IsMade}

-- a refusal that says its line
pub says_stops : {B : Type 0} (line : List ℕ) (stop : Stop) (r : Result B (List ℕ)) → r ≡ Err line → Says line stop → Stops stop r
says_stops line (Refused said) r h is = h ∙ ap Err (sym is)
says_stops line (Memory e) r h is = tt

module _ (e : List Row) (s : Requests) (ms : List (List MarkRow)) where
  pub no_squash : (f : Fault) (stop : Stop) → grouped [] ms ≡ Err f → Says (refusal squash_name (Tree f)) stop → Gives e s (Err stop) (squash_in ms)
  no_squash f stop h is = says_stops (refusal squash_name (Tree f)) stop (squash_in ms) (ap (or_line (λ f. refusal squash_name (Tree f))) h) is

  pub has_squash : (made : Made) (lower : List MarkRow) → grouped [] ms ≡ Ok lower → IsMade e s lower made → Gives e s (Ok made) (squash_in ms)
  has_squash made lower h is = subst (λ r. Gives e s (Ok made) r) (sym (ap (or_line (λ f. refusal squash_name (Tree f))) h)) is

  -- what is made has the squash
  pub made_given : (made : Made) (r : Result (List MarkRow) (List ℕ)) → Gives e s (Ok made) r → (lower : List MarkRow) × (r ≡ Ok lower) × IsMade e s lower made
  made_given made (Ok lower) h = (lower, refl, h)
  made_given made (Err line) h = absurd h
