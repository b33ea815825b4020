-- The laws of manifests, as statements. Assumes nothing.
use Rattle.std.specs.Prelude.{◌≡◌, ℕ, ◌≤◌, true, List, length, Ok}
use Rattle.trees.specs.Entries.{Row, Entries, is_tree}
use Rattle.listing.specs.Lines.{listing}
use Rattle.manifests.specs.Manifests.{indexed}

-- the listing of any tree, where it fits a manifest, reads back as the tree's entries
abbrev pub ListingReadsBack : Type 0
ListingReadsBack =
    (e : Entries) (given : ℕ) → length (listing e.rows) ≤ 65536 → length e.rows ≤ 1024 → length e.rows ≤ given → indexed given (listing e.rows) ≡ Ok e.rows

-- where a text is indexed, the rows it gave are enough, and are the text's: loading takes them
abbrev pub IndexThenLoad : Type 0
IndexThenLoad = (given : ℕ) (text : List ℕ) (rows : List Row) → indexed given text ≡ Ok rows → (length rows ≤ given) × (length rows ≤ 1024) × (indexed (length rows) text ≡ Ok rows)

-- what a text is accepted to say is a tree
abbrev pub IndexMakesTree : Type 0
IndexMakesTree = (given : ℕ) (text : List ℕ) (rows : List Row) → indexed given text ≡ Ok rows → is_tree rows ≡ true
