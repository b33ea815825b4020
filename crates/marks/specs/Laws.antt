-- The laws of a layer's marks over a tree, as statements. Assumes nothing.
use Rattle.std.specs.Prelude.{◌≡◌, ℕ, ◌+◌, ◌≤◌, true, false, ◌||◌, List, [], length, None}
use Rattle.rows.specs.Maps.{Names, at}
use Rattle.trees.specs.Entries.{Row, fine, is_tree}
use Rattle.edits.specs.declared.action.Action.{Action}
use Rattle.edits.specs.Edits.{edited, removes, refused_at}
use Rattle.marks.specs.Marks.{MarkRow, cut, unless, see, merged, layered}
use Rattle.marks.specs.Edits.{marked, lacks}
use Rattle.marks.specs.Squash.{over, squashed}
use Rattle.marks.specs.Plain.{unnoted, granted_plain, plain_of}

-- with room for so many rows more, the checks grant the edit
abbrev pub Granted : List MarkRow → List Row → ℕ → Names → Action → Type 0
Granted m e room p a = refused_at (merged m e) room (lacks m p) p a ≡ None

-- what holds of the marks m of a layer over the entries e of a tree
pub record Lawful (m : List MarkRow) (e : List Row) (layer : layered m ≡ true) (tree : is_tree e ≡ true) : Type 0 where
  -- a layer over a tree is a tree
  pub merged_tree : is_tree (merged m e) ≡ true
  -- at each path it has what the mark there sets; without a mark, what the tree below has there, unless a mark above cuts it off
  pub has_at : (p : Names) → at (merged m e) p ≡ see (at m p) (unless (cut (at m) p) (at e p))
  -- a granted edit at a good path leaves a layer
  pub leaves_layer : (room : ℕ) (p : Names) (a : Action) → Granted m e room p a → fine p ≡ true → layered (marked m e p a) ≡ true
  -- a granted edit makes its one change in the entries
  pub one_change : (room : ℕ) (p : Names) (a : Action) → Granted m e room p a → merged (marked m e p a) e ≡ edited (merged m e) p a
  -- a granted edit does to the plain map what the plain map's rules say
  pub plain_rules : (room : ℕ) (p : Names) (a : Action) → Granted m e room p a → plain_of (marked m e p a) e ≡ granted_plain (plain_of m e) p a
  -- there are as many rows as the plain map has noted paths
  pub plain_rows : length m ≡ length (plain_of m e).noted
  -- the need of a path is how many of its prefixes the plain map has not noted
  pub plain_need : (p : Names) → lacks m p ≡ unnoted (plain_of m e).noted p
  -- the need of a path is at most the number of its prefixes
  pub need_most : (p : Names) → lacks m p ≤ length p + 1
  -- an edit takes at most the need of its path
  pub rows_most : (p : Names) (a : Action) → length (marked m e p a) ≤ length m + lacks m p
  -- a granted edit that removes nothing takes just the need
  pub rows_taken : (room : ℕ) (p : Names) (a : Action) → Granted m e room p a → removes a ≡ false → length (marked m e p a) ≡ length m + lacks m p
  -- and its path then needs nothing more
  pub need_none : (room : ℕ) (p : Names) (a : Action) → Granted m e room p a → removes a ≡ false → lacks (marked m e p a) p ≡ 0

-- what holds of the squash of a layer u over a layer l
pub record SquashLaws (u l : List MarkRow) (upper : layered u ≡ true) (lower : layered l ≡ true) : Type 0 where
  -- it is a layer
  pub is_layer : layered (squashed u l) ≡ true
  -- at each path it has the upper mark over the lower one, or over none where the upper layer cuts the path off
  pub squash_at : (p : Names) → at (squashed u l) p ≡ over (at u p) (unless (cut (at u) p) (at l p))
  -- it cuts off what either layer cuts off
  pub cuts : (p : Names) → cut (at (squashed u l)) p ≡ (cut (at u) p || cut (at l) p)
  -- laid over a tree, it has the entries of the two laid one over the other
  pub lays : (e : List Row) → is_tree e ≡ true → merged (squashed u l) e ≡ merged u (merged l e)
  -- of three layers it does not matter which two are squashed first
  pub associates : (k : List MarkRow) → layered k ≡ true → squashed (squashed u l) k ≡ squashed u (squashed l k)
  -- the layer without rows changes nothing, above or below
  pub over_empty : squashed u [] ≡ u
  pub empty_over : squashed [] l ≡ l
  -- each row of the upper layer stays, and no row is there that neither had
  pub rows_least : length u ≤ length (squashed u l)
  pub rows_sum : length (squashed u l) ≤ length u + length l
