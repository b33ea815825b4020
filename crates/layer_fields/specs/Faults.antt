-- The numbers of a layer file's fault, and how it is printed. Assumes nothing.
use Rattle.std.specs.Prelude.{ℕ, List, ◌∷◌, ◌++◌, decimal}
use Rattle.paths.specs.Faults.{fields as path_fields}
use Rattle.layer_fields.specs.declared.fault.Cause.{Cause}
use Rattle.layer_fields.specs.declared.fault.Cause.TheVariants.{Field, Version, Whiteout, Path, Order, Parent, Value, TooMany, Count}
use Rattle.layer_fields.specs.declared.fault.LayerFault.{LayerFault}

-- the number of the cause, or the path's fault whole
abbrev pub cause_fields : Cause → List ℕ
cause_fields Field = decimal 40
cause_fields Version = decimal 41
cause_fields Whiteout = decimal 42
cause_fields (Path f) = path_fields f
cause_fields Order = decimal 43
cause_fields Parent = decimal 44
cause_fields Value = decimal 45
cause_fields TooMany = decimal 46
cause_fields Count = decimal 47

-- `l`, the position of the field's first byte, and the cause
abbrev pub fields : LayerFault → List ℕ
fields f = 108 ∷ 32 ∷ (decimal f.at ++ 32 ∷ cause_fields f.cause)

abbrev pub fault_at : ℕ → Cause → LayerFault
fault_at at c = record { at = at; cause = c }
