-- What a refit is given, or why it is refused before anything is done. Assumes nothing.
use Rattle.std.specs.Prelude.{ℕ, ◌+◌, cond, List, [], ◌∷◌, ◌++◌, decimal, Ok, Result, nat_lt}
use Rattle.std.specs.Result.{result_map_both}
use Rattle.paths.specs.Steps.{and_then}
use Rattle.trees.specs.Entries.{Row}
use Rattle.marks.specs.Marks.{MarkRow}
use Rattle.layer_files.specs.Reads.{decoded}
use Rattle.archive.specs.Groups.{grouped}
use Rattle.manifests.specs.Manifests.{indexed}
use Rattle.scripts.specs.Scripts.{Requests, script_of}
use Rattle.reports.specs.declared.refusal.Reason.TheVariants.{Tree, Manifest, Layer}
use Rattle.reports.specs.Refusals.{base_name, refusal}
use Rattle.replies.specs.Replies.{unreadable_line}

-- what is given, or the line of the fault
abbrev pub or_line : {A F : Type 0} → (F → List ℕ) → Result A F → Result A (List ℕ)
or_line line r = result_map_both (λ a. a) line r

-- the name of a layer's file: its number with two digits at least, and `.lay`
abbrev pub layer_name : ℕ → List ℕ
layer_name n = cond (nat_lt n 10) (48 ∷ decimal n) (decimal n) ++ 46 ∷ 108 ∷ 97 ∷ 121 ∷ []

-- `squash`
abbrev pub squash_name : List ℕ
squash_name = 115 ∷ 113 ∷ 117 ∷ 97 ∷ 115 ∷ 104 ∷ []

-- the entries of the base
abbrev pub base_of : List ℕ → Result (List Row) (List ℕ)
base_of text = or_line (λ f. refusal base_name (Manifest f)) (indexed 1024 text)

-- the layer of the file with that number
abbrev pub layer_of : ℕ → List ℕ → Result (List MarkRow) (List ℕ)
layer_of n file = or_line (λ f. refusal (layer_name n) (Layer f)) (decoded file)

-- the layers so far, and those of further files, counted from n
unfoldable pub layers_from : ℕ → List (List MarkRow) → List (List ℕ) → Result (List (List MarkRow)) (List ℕ)
layers_from n ms [] = Ok ms
layers_from n ms (f ∷ fs) = and_then (layer_of n f) (λ m. layers_from (n + 1) (ms ++ m ∷ []) fs)

-- the calls of the script
abbrev pub calls_of : List ℕ → Result Requests (List ℕ)
calls_of text = or_line unreadable_line (script_of text)

-- the squash of the layers, from the lowest up
abbrev pub squash_in : List (List MarkRow) → Result (List MarkRow) (List ℕ)
squash_in ms = or_line (λ f. refusal squash_name (Tree f)) (grouped [] ms)

-- the rows of the base, the layers over it, the lowest first, their squash, and the calls
pub record Given : Type 0 where
  pub rows : List Row
  pub layers : List (List MarkRow)
  pub script : Requests
  pub squash : List MarkRow

-- what is given, or the line of the first refusal: the base is judged first, then the layers from the lowest up, the script, the squash
abbrev pub judged : List ℕ → List (List ℕ) → List ℕ → Result Given (List ℕ)
judged base files text =
    and_then (base_of base) (λ rows.
    and_then (layers_from 1 [] files) (λ ms.
    and_then (calls_of text) (λ s.
    and_then (squash_in ms) (λ m.
    Ok (record { rows = rows; layers = ms; script = s; squash = m })))))
