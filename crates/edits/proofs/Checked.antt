-- One check after another. Assumes nothing.
use Rattle.std.proofs.Common.{◌≡◌, Some, None, Ok, Err, Option, Result, sym, ap, ◌∙◌}
use Rattle.std.specs.Option.{option_or}
use Rattle.trees.specs.declared.fault.Fault.{Fault}
use Rattle.edits.specs.Edits.{answered}

-- the first check passes: the next one answers
pub next_answers : (a b o : Option Fault) (u : Unit {0}) (r : Result (Unit {0}) Fault) → o ≡ option_or a b → ◌≡◌ {A = Result (Unit {0}) Fault} (Ok u) (answered a) → r ≡ answered b → r ≡ answered o
next_answers None b o u r e h k = k ∙ sym (ap answered e)
next_answers (Some f) b o u r e h k = cc

-- the first check refuses
pub first_answers : (a b o : Option Fault) (f : Fault) → o ≡ option_or a b → ◌≡◌ {A = Result (Unit {0}) Fault} (Err f) (answered a) → ◌≡◌ {A = Result (Unit {0}) Fault} (Err f) (answered o)
first_answers None b o f e h = cc
first_answers (Some g) b o f e h = h ∙ sym (ap answered e)
