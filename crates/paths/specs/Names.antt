-- A path's text and its names. Assumes nothing.
use Rattle.std.specs.Prelude.{◌≡◌, ℕ, ◌+◌, Bool, true, false, cond, not, ◌&&◌, ◌||◌, List, [], ◌∷◌, ◌++◌, map, length, is_some, Some, None, Ok, Err, Option, Result, ◌==◌, nat_le}
use Rattle.paths.specs.Pieces.{pieces}
use Rattle.paths.specs.declared.PathFault.{PathFault}
use Rattle.paths.specs.declared.PathFault.TheVariants.{TooLong, BadName, TooDeep}

-- the names of a path: the root has none
abbrev pub split : List ℕ → List (List ℕ)
split [] = []
split (b ∷ bs) = pieces 47 (b ∷ bs)

-- names, with a `/` between neighbours
abbrev pub join : List (List ℕ) → List ℕ
join [] = []
join (n ∷ []) = n
join (n ∷ m ∷ ns) = n ++ 47 ∷ join (m ∷ ns)

-- bytes, none of them 0 or `/`
abbrev pub plain : List ℕ → Bool
plain [] = true
plain (b ∷ bs) = (not (b == 0) && nat_le b 255) && (not (b == 47) && plain bs)

abbrev pub begins : List ℕ → List ℕ → Bool
begins [] n = true
begins (x ∷ xs) [] = false
begins (x ∷ xs) (y ∷ ys) = y == x && begins xs ys

abbrev pub same : List ℕ → List ℕ → Bool
same [] [] = true
same [] (y ∷ ys) = false
same (x ∷ xs) [] = false
same (x ∷ xs) (y ∷ ys) = y == x && same xs ys

-- `.`, `..`, and what begins with `.wh.`
abbrev pub reserved : List ℕ → Bool
reserved n = same (46 ∷ []) n || (same (46 ∷ 46 ∷ []) n || begins (46 ∷ 119 ∷ 104 ∷ 46 ∷ []) n)

abbrev pub good_name : List ℕ → Bool
good_name n = nat_le 1 (length n) && (nat_le (length n) 40 && (plain n && not (reserved n)))

-- the first fault of names that are counted from k
abbrev pub fault_in : ℕ → List (List ℕ) → Option PathFault
fault_in k [] = None
fault_in k (n ∷ ns) = cond (nat_le 8 k) (Some TooDeep) (cond (good_name n) (fault_in (k + 1) ns) (Some (BadName k)))

abbrev pub fault : List ℕ → Option PathFault
fault b = cond (nat_le (length b) 120) (fault_in 0 (split b)) (Some TooLong)

abbrev pub good : List ℕ → Bool
good b = not (is_some (fault b))

-- refused with that fault, or else granted
abbrev pub Checked : Option PathFault → Result (Unit {0}) PathFault → Type 0
Checked o (Ok _) = o ≡ None
Checked o (Err e) = o ≡ Some e

abbrev pub judged : List (List ℕ) → Option PathFault → Result (List (List ℕ)) PathFault
judged ns None = Ok ns
judged ns (Some e) = Err e

-- the names, or why there are none
abbrev pub judge : List ℕ → Result (List (List ℕ)) PathFault
judge b = judged (split b) (fault b)

-- the root, and the path cut after each name
abbrev pub prefixes : List (List ℕ) → List (List (List ℕ))
prefixes [] = [] ∷ []
prefixes (n ∷ ns) = [] ∷ map (λ p. n ∷ p) (prefixes ns)

-- all but the last name
abbrev pub parent : List (List ℕ) → List (List ℕ)
parent [] = []
parent (n ∷ []) = []
parent (n ∷ m ∷ ns) = n ∷ parent (m ∷ ns)

abbrev pub last_name : List (List ℕ) → List ℕ
last_name [] = []
last_name (n ∷ []) = n
last_name (n ∷ m ∷ ns) = last_name (m ∷ ns)

-- ns begins with ps
abbrev pub Under : List (List ℕ) → List (List ℕ) → Type 0
Under ps ns = (rest : List (List ℕ)) × (ns ≡ ps ++ rest)
