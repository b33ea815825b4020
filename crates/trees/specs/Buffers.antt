-- A text that is written to the front of a buffer, if there is room for it. Assumes nothing.
use Rattle.std.specs.Prelude.{ℕ, cond, List, ◌++◌, length, drop, Ok, Err, Result, nat_lt}
use Rattle.trees.specs.declared.fault.Fault.{Fault}
use Rattle.trees.specs.declared.fault.Fault.TheVariants.{ShortBuffer}

-- the length of the text, if a buffer of n bytes takes it
abbrev pub fitted : List ℕ → ℕ → Result ℕ Fault
fitted text n = cond (nat_lt n (length text)) (Err ShortBuffer) (Ok (length text))

-- the buffer afterwards: the text, then what was there; or, where it is too short, all that was there
abbrev pub put_front : List ℕ → List ℕ → List ℕ
put_front text b = cond (nat_lt (length b) (length text)) b (text ++ drop (length text) b)
