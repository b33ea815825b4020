-- Where looking in path order stops. Assumes nothing.
use Rattle.std.specs.Prelude.{◌≡◌, ℕ, suc, ◌<◌, true, cond, List, [], ◌∷◌, ◌++◌, length, drop, Some, None, Option}
use Rattle.std.specs.Ordering.{is_eq}
use Rattle.paths.specs.Names.{parent}
use Rattle.paths.specs.Order.{by_names}
use Rattle.paths.specs.Paths.{names}
use Rattle.rows.specs.declared.position.Position.{Position}
use Rattle.rows.specs.declared.row.Row.{Row}
use Rattle.std.specs.Option.{option_map}
use Rattle.rows.specs.Maps.{Names, before, under, has}
use Rattle.rows.specs.Rows.{rows_of}

-- no name lies between a name and the same name with a zero byte behind it
abbrev pub behind : List ℕ → List ℕ
behind a = a ++ 0 ∷ []

abbrev pub place_in : Names → Option (List ℕ) → Names
place_in p None = p
place_in p (Some a) = p ++ behind a ∷ []

abbrev pub place_of : Position → Names
place_of q = place_in (names q.path.now) (option_map (λ a. a.now) q.after)

module _ {V : Type 0} where
  -- how many rows at the front come before a place
  abbrev pub lead : Names → List (Names × V) → ℕ
  lead p [] = 0
  lead p (r ∷ rs) = cond (before r.0 p) (suc (lead p rs)) 0

  -- how many rows at the front are at a path or below it
  abbrev pub led_under : Names → List (Names × V) → ℕ
  led_under p [] = 0
  led_under p (r ∷ rs) = cond (under p r.0) (suc (led_under p rs)) 0

  -- the row at p is the one of that index
  pub record Here (rs : List (Row V)) (p : Names) (i : ℕ) : Type 0 where
    pub value : i ≡ lead p (rows_of rs)
    pub within : i < length rs
    pub there : has (rows_of rs) p ≡ true

  abbrev pub child_head : Names → List (Names × V) → Option Names
  child_head p [] = None
  child_head p (r ∷ rs) = cond (is_eq (by_names (parent r.0) p)) (Some r.0) None

  -- the first row behind a name in p, if it is a child of p
  abbrev pub child_at : List (Names × V) → Names → List ℕ → Option Names
  child_at rs p a = child_head p (drop (lead (p ++ behind a ∷ []) rs) rs)
