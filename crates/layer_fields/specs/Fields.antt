-- A field of a layer file: one byte of tag, the length of the value in two bytes, and the value. Numbers have their high byte
-- first. Assumes nothing.
use Rattle.std.specs.Prelude.{ℕ, ◌+◌, cond, List, [], ◌∷◌, ◌++◌, length, take, Some, None, Option, nat_le}
use Rattle.std.specs.Int.{w16, to_be_bytes, from_be_bytes}
use Rattle.layer_fields.specs.declared.field.Field.{Field as Lent}

-- a tag and a value
abbrev pub Field : Type 0
Field = ℕ × List ℕ

abbrev pub field_bytes : Field → List ℕ
field_bytes f = f.0 ∷ (to_be_bytes w16 (length f.1) ++ f.1)

-- how many bytes a field takes
abbrev pub span : Field → ℕ
span f = 3 + length f.1

abbrev pub cut_field : ℕ → ℕ → List ℕ → Option Field
cut_field t n rest = cond (nat_le n (length rest)) (Some (t, take n rest)) None

-- the field that the bytes begin with, if it is there whole
unfoldable pub front_field : List ℕ → Option Field
front_field [] = None
front_field (t ∷ []) = None
front_field (t ∷ h ∷ []) = None
front_field (t ∷ h ∷ l ∷ rest) = cut_field t (from_be_bytes w16 (h ∷ l ∷ [])) rest

-- a field that is lent
abbrev pub field_of : Lent → Field
field_of f = (f.tag, f.value.now)
