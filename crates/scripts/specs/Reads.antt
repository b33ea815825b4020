-- What reading gives. Assumes nothing.
use Rattle.std.specs.Prelude.{◌≡◌, Some, None, Ok, Err, Option, Result}
use Rattle.scripts.specs.declared.fault.LineFault.{LineFault}
use Rattle.scripts.specs.declared.fault.LineFault.TheVariants.{Unreadable, Memory}

-- what is read means just what the rule says, and what cannot be read has no meaning; want of memory tells nothing
abbrev pub Reads : {A B : Type 0} → (A → B) → Result A LineFault → Option B → Type 0
Reads meaning (Ok a) o = o ≡ Some (meaning a)
Reads meaning (Err Unreadable) o = o ≡ None
Reads meaning (Err (Memory e)) o = Unit {0}
