-- A text cut at a separator that a part of it has not. Assumes nothing.
use Rattle.std.proofs.Common.{◌≡◌, ℕ, ◌<◌, ◌≤◌, Bool, true, false, cond, ◌&&◌, eqb, ltb, List, [], ◌∷◌, ◌++◌, refl, ap, ◌∙◌, arith}
use Rattle.std.proofs.lemmas.Bool.{and_parts, ltb-true, eqb-false}
use Rattle.std.specs.List.{AllByRecursion as All}
use Rattle.paths.specs.Pieces.{front, later, pieces}
use Rattle.paths.proofs.Fronts.{front_stop, front_go, later_stop, later_go}

-- no byte is the separator
abbrev pub Lacks : ℕ → List ℕ → Type 0
Lacks n s = All (λ b. b ≡ n → ⊥) s

module _ (sep : ℕ) where
  pub front-whole : (s : List ℕ) → Lacks sep s → front sep s ≡ s
  front-whole [] a = refl
  front-whole (b ∷ bs) a = front_go sep b bs a.0 ∙ ap (λ l. b ∷ l) (front-whole bs a.1)

  pub later-whole : (s : List ℕ) → Lacks sep s → later sep s ≡ []
  later-whole [] a = refl
  later-whole (b ∷ bs) a = later_go sep b bs a.0 ∙ later-whole bs a.1

  pub pieces-whole : (s : List ℕ) → Lacks sep s → pieces sep s ≡ s ∷ []
  pieces-whole s a = λ i. front-whole s a i ∷ later-whole s a i

  pub front_part : (s rest : List ℕ) → Lacks sep s → front sep (s ++ sep ∷ rest) ≡ s
  front_part [] rest a = front_stop sep sep rest refl
  front_part (b ∷ bs) rest a =
      front_go sep b (bs ++ sep ∷ rest) a.0 ∙ ap (λ l. b ∷ l) (front_part bs rest a.1)

  pub later_part : (s rest : List ℕ) → Lacks sep s → later sep (s ++ sep ∷ rest) ≡ pieces sep rest
  later_part [] rest a = later_stop sep sep rest refl
  later_part (b ∷ bs) rest a = later_go sep b (bs ++ sep ∷ rest) a.0 ∙ later_part bs rest a.1

  pub pieces_part : (s rest : List ℕ) → Lacks sep s → pieces sep (s ++ sep ∷ rest) ≡ s ∷ pieces sep rest
  pieces_part s rest a = λ i. front_part s rest a i ∷ later_part s rest a i

  -- ---- a piece has no separator

  front-lacks : (s : List ℕ) → Lacks sep (front sep s)
  front-lacks [] = tt
  front-lacks (b ∷ bs) = go (eqb b sep) refl (front-lacks bs) where
    go : (t : Bool) → eqb b sep ≡ t → Lacks sep (front sep bs) → Lacks sep (cond t [] (b ∷ front sep bs))
    go true e h = tt
    go false e h = (eqb-false b sep e, h)

  later-lacks : (s : List ℕ) → All (Lacks sep) (later sep s)
  later-lacks [] = tt
  later-lacks (b ∷ bs) =
      let h = later-lacks bs in
      elim (eqb b sep) as (λ t. All (Lacks sep) (cond t (pieces sep bs) (later sep bs))) [ true ↦ (front-lacks bs, h) | false ↦ h ]

  pub pieces-lack : (s : List ℕ) → All (Lacks sep) (pieces sep s)
  pieces-lack s = (front-lacks s, later-lacks s)

-- ---- each byte is greater than a separator, and so greater than a lesser one

abbrev pub Above : ℕ → List ℕ → Type 0
Above n s = All (λ b. n < b) s

pub above-less : (m n : ℕ) → m ≤ n → (s : List ℕ) → Above n s → Above m s
above-less m n h [] a = tt
above-less m n h (b ∷ bs) a =
    let here = a.0 in
    (omega arith, above-less m n h bs a.1)

pub above-lacks : (n : ℕ) (s : List ℕ) → Above n s → Lacks n s
above-lacks n [] a = tt
above-lacks n (b ∷ bs) a =
    let here = a.0 in
    (λ e. omega arith, above-lacks n bs a.1)

-- the same of a text that is written out, by computation
abbrev pub all_above : ℕ → List ℕ → Bool
all_above n [] = true
all_above n (b ∷ bs) = ltb n b && all_above n bs

pub above_from : (n : ℕ) (s : List ℕ) → all_above n s ≡ true → Above n s
above_from n [] h = tt
above_from n (b ∷ bs) h =
    let p = and_parts (ltb n b) (all_above n bs) h in
    (ltb-true n b p.0, above_from n bs p.1)
