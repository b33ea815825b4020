-- The number of a cause, and how it is printed. Assumes nothing.
use Rattle.std.specs.Prelude.{ℕ, List, decimal}
use Rattle.paths.specs.Faults.{fields as path_fields}
use Rattle.words.specs.declared.fault.Cause.{Cause}
use Rattle.words.specs.declared.fault.Cause.TheVariants.{Header, Word, Path, Keyword, Value, Order, Parent, TooMany, OtherRows}

-- the number of the cause, or the path's fault whole
abbrev pub cause_fields : Cause → List ℕ
cause_fields Header = decimal 30
cause_fields Word = decimal 31
cause_fields (Path f) = path_fields f
cause_fields Keyword = decimal 32
cause_fields Value = decimal 33
cause_fields Order = decimal 34
cause_fields Parent = decimal 35
cause_fields TooMany = decimal 36
cause_fields OtherRows = decimal 37
