-- The line that a refusal prints. Assumes nothing.
use Rattle.std.specs.Prelude.{ℕ, List, [], ◌∷◌, ◌++◌}
use Rattle.trees.specs.Faults.{fields as tree_fields}
use Rattle.manifests.specs.Faults.{fields as manifest_fields}
use Rattle.layer_fields.specs.Faults.{fields as layer_fields}
use Rattle.reports.specs.declared.refusal.Reason.{Reason}
use Rattle.reports.specs.declared.refusal.Reason.TheVariants.{Tree, Manifest, Layer}

-- the fault's letter and numbers
abbrev pub reason_fields : Reason → List ℕ
reason_fields (Tree f) = tree_fields f
reason_fields (Manifest f) = manifest_fields f
reason_fields (Layer f) = layer_fields f

-- `base.mtree`
abbrev pub base_name : List ℕ
base_name = 98 ∷ 97 ∷ 115 ∷ 101 ∷ 46 ∷ 109 ∷ 116 ∷ 114 ∷ 101 ∷ 101 ∷ []

-- `top.lay`
abbrev pub top_name : List ℕ
top_name = 116 ∷ 111 ∷ 112 ∷ 46 ∷ 108 ∷ 97 ∷ 121 ∷ []

-- `list`
abbrev pub list_name : List ℕ
list_name = 108 ∷ 105 ∷ 115 ∷ 116 ∷ []

-- what of a folder is refused for that reason
abbrev pub subject : Reason → List ℕ
subject (Tree f) = list_name
subject (Manifest f) = base_name
subject (Layer f) = top_name

-- `refused`, what was refused, the fields, and a newline; single spaces between them
abbrev pub refusal : List ℕ → Reason → List ℕ
refusal who reason =
    114 ∷ 101 ∷ 102 ∷ 117 ∷ 115 ∷ 101 ∷ 100 ∷ 32 ∷ (who ++ 32 ∷ (reason_fields reason ++ 10 ∷ []))
