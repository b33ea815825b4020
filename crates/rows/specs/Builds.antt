-- Maps made path by path. Assumes nothing.
use Rattle.std.specs.Prelude.{Bool, false, cond, ◌||◌, List, [], ◌∷◌, Some, None, Option}
use Rattle.std.specs.declared.cmp.Ordering.TheVariants.{Less, Equal, Greater}
use Rattle.std.specs.declared.cmp.Ordering.{Ordering}
use Rattle.std.specs.Ordering.{is_eq}
use Rattle.paths.specs.Order.{by_names}
use Rattle.rows.specs.Maps.{Names, at}

-- q is the path k
abbrev pub same : Names → Names → Bool
same q k = is_eq (by_names k q)

-- q is one of the paths
abbrev pub among : List Names → Names → Bool
among [] q = false
among (k ∷ ks) q = same q k || among ks q

abbrev pub put_by : Ordering → Names → Names → List Names → List Names → List Names
put_by Less k x xs ys = k ∷ x ∷ xs
put_by Equal k x xs ys = x ∷ xs
put_by Greater k x xs ys = x ∷ ys

-- one path more, in its place
abbrev pub add : List Names → Names → List Names
add [] k = k ∷ []
add (x ∷ xs) k = put_by (by_names k x) k x xs (add xs k)

-- the paths of either list, each once and in their order
abbrev pub union : List Names → List Names → List Names
union [] js = js
union (k ∷ ks) js = add (union ks js) k

module _ {V : Type 0} where
  abbrev pub keys : List (Names × V) → List Names
  keys [] = []
  keys (r ∷ rs) = r.0 ∷ keys rs

  abbrev pub row : Names → Option V → List (Names × V) → List (Names × V)
  row k None rs = rs
  row k (Some v) rs = (k, v) ∷ rs

  -- the rows that f has at the paths
  abbrev pub build : (Names → Option V) → List Names → List (Names × V)
  build f [] = []
  build f (k ∷ ks) = row k (f k) (build f ks)

  -- the map with another value at p, or with none
  abbrev pub set_at : List (Names × V) → Names → Option V → List (Names × V)
  set_at rs p v = build (λ q. cond (same q p) v (at rs q)) (add (keys rs) p)
