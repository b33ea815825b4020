-- Finite maps from paths: rows of a path's names and a value, which rise strictly in path order. Assumes nothing.
use Rattle.std.specs.Prelude.{ℕ, Bool, true, false, cond, not, ◌&&◌, List, [], ◌∷◌, is_some, Some, None, Option}
use Rattle.std.specs.Option.{option_map}
use Rattle.std.specs.Ordering.{is_lt, is_eq}
use Rattle.paths.specs.Names.{parent, last_name}
use Rattle.paths.specs.Order.{by_bytes, by_names}

abbrev pub Names : Type 0
Names = List (List ℕ)

abbrev pub before : Names → Names → Bool
before p q = is_lt (by_names p q)

-- q is p, or lies below it
abbrev pub under : Names → Names → Bool
under [] q = true
under (n ∷ p) [] = false
under (n ∷ p) (k ∷ q) = is_eq (by_bytes k n) && under p q

-- the first that passes the test
abbrev pub first : {A : Type 0} → (A → Bool) → List A → Option A
first t [] = None
first t (r ∷ rs) = cond (t r) (Some r) (first t rs)

module _ {V : Type 0} where
  abbrev pub is_at : Names → Names × V → Bool
  is_at p r = is_eq (by_names r.0 p)

  -- the value at a path
  abbrev pub at : List (Names × V) → Names → Option V
  at rs p = option_map (λ r. r.1) (first (is_at p) rs)

  abbrev pub has : List (Names × V) → Names → Bool
  has rs p = is_some (at rs p)

  -- p comes before the first row
  abbrev pub above : Names → List (Names × V) → Bool
  above p [] = true
  above p (r ∷ rs) = before p r.0

  abbrev pub ascending : List (Names × V) → Bool
  ascending [] = true
  ascending (r ∷ rs) = above r.0 rs && ascending rs

  -- p comes after every row: rows rise, so it is enough that it comes after the last
  abbrev pub rises : List (Names × V) → Names → Bool
  rises [] p = true
  rises (r ∷ []) p = before r.0 p
  rises (r ∷ s ∷ rs) p = rises (s ∷ rs) p

  -- the parent of each row has a row too; the root is its own parent
  abbrev pub rooted : List (Names × V) → List (Names × V) → Bool
  rooted all [] = true
  rooted all (r ∷ rs) = has all (parent r.0) && rooted all rs

  -- a child of p whose name is greater than a
  abbrev pub is_child : Names → List ℕ → Names × V → Bool
  is_child p a r = is_eq (by_names (parent r.0) p) && is_lt (by_bytes a (last_name r.0))

  -- the path of the child of p with the smallest name greater than a
  abbrev pub child_path : List (Names × V) → Names → List ℕ → Option Names
  child_path rs p a = option_map (λ r. r.0) (first (is_child p a) rs)

  abbrev pub is_after : Names → Names × V → Bool
  is_after p r = before p r.0

  -- the first path after p
  abbrev pub path_after : List (Names × V) → Names → Option Names
  path_after rs p = option_map (λ r. r.0) (first (is_after p) rs)

  -- the rows whose paths pass a test
  abbrev pub only : (Names → Bool) → List (Names × V) → List (Names × V)
  only t [] = []
  only t (r ∷ rs) = cond (t r.0) (r ∷ only t rs) (only t rs)

  -- the rows that are neither at a path nor below it
  abbrev pub without : Names → List (Names × V) → List (Names × V)
  without p rs = only (λ q. not (under p q)) rs

  -- the same rows, the one at p with the value v
  abbrev pub replaced : List (Names × V) → Names → V → List (Names × V)
  replaced [] p v = []
  replaced (r ∷ rs) p v = cond (is_at p r) ((r.0, v) ∷ rs) (r ∷ replaced rs p v)
