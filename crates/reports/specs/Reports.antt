-- What a program reports. Assumes nothing.
use Rattle.std.specs.Prelude.{◌≡◌, ℕ, ◌<◌, ◌≤◌, List, [], length, Ok, Err, Vec, String, vec_items, string_bytes, Option, Some, None, Result}
use Rattle.std.specs.Global.{Global}
use Rattle.trees.specs.declared.fault.Fault.TheVariants.{ShortBuffer}
use Rattle.trees.specs.Entries.{Row}
use Rattle.listing.specs.Lines.{listing}
use Rattle.marks.specs.Marks.{MarkRow, merged}
use Rattle.layer_fields.specs.declared.fault.LayerFault.{LayerFault}
use Rattle.layer_files.specs.Reads.{decoded}
use Rattle.manifests.specs.declared.fault.ManifestFault.{ManifestFault}
use Rattle.manifests.specs.Manifests.{indexed}
use Rattle.reports.specs.declared.refusal.Reason.{Reason}
use Rattle.reports.specs.declared.refusal.Reason.TheVariants.{Tree, Manifest, Layer}
use Rattle.reports.specs.Refusals.{base_name, top_name, list_name, refusal}

-- the listing, or the one line of a refusal
abbrev pub Report : Type 0
Report = Result (Vec ℕ Global) (String Global)

-- a refusal that prints a line
abbrev pub Says : List ℕ → Report → Type 0
Says line (Ok text) = ⊥
Says line (Err said) = string_bytes said ≡ line

-- of a tree: its listing, or the refusal of the buffer of 65,536 bytes
abbrev pub Lists : List Row → Report → Type 0
Lists rows (Ok text) = (length (listing rows) ≤ 65536) × (vec_items text ≡ listing rows)
Lists rows (Err said) = (65536 < length (listing rows)) × (string_bytes said ≡ refusal list_name (Tree ShortBuffer))

-- the marks of a layer file; of none, no rows
abbrev pub layer_in : Option (List ℕ) → Result (List MarkRow) LayerFault
layer_in None = Ok []
layer_in (Some file) = decoded file

-- why a base and a layer make no pile: the base is judged first
abbrev pub Refuses : Result (List Row) ManifestFault → Result (List MarkRow) LayerFault → Reason → Type 0
Refuses (Err f) m r = r ≡ Manifest f
Refuses (Ok rows) (Err f) r = r ≡ Layer f
Refuses (Ok rows) (Ok m) r = ⊥

-- a layer on the rows of a base: the listing of the two, or the refusal of the layer file
abbrev pub TellsLaid : List Row → Result (List MarkRow) LayerFault → Report → Type 0
TellsLaid rows (Ok m) r = Lists (merged m rows) r
TellsLaid rows (Err f) r = Says (refusal top_name (Layer f)) r

abbrev pub Tells : Result (List Row) ManifestFault → Option (List ℕ) → Report → Type 0
Tells (Ok rows) top r = TellsLaid rows (layer_in top) r
Tells (Err f) top r = Says (refusal base_name (Manifest f)) r

-- of the text of a manifest, and of a layer file, where there is one: the base is judged first
abbrev pub Reports : List ℕ → Option (List ℕ) → Report → Type 0
Reports base top r = Tells (indexed 1024 base) top r
