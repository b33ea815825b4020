-- One step after another, each of which may refuse. Assumes nothing.
use Rattle.std.specs.Prelude.{Some, None, Ok, Err, Option, Result}

-- what the next step makes of a result; the first refusal stays
abbrev pub and_then : {A B E : Type 0} → Result A E → (A → Result B E) → Result B E
and_then (Ok a) go = go a
and_then (Err e) go = Err e

abbrev pub and_then_some : {A B : Type 0} → Option A → (A → Option B) → Option B
and_then_some None go = None
and_then_some (Some a) go = go a

-- a refusal with another error
abbrev pub map_err : {A E D : Type 0} → (E → D) → Result A E → Result A D
map_err c (Ok a) = Ok a
map_err c (Err e) = Err (c e)
