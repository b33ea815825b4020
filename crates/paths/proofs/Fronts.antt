-- How a text is cut at a separator. Assumes nothing.
use Rattle.std.proofs.Common.{◌≡◌, ℕ, suc, ◌+◌, ◌-◌, ◌<◌, true, false, cond, eqb, List, [], ◌∷◌, length, take, drop, sym, refl, ap, ◌∙◌, add-one, arith}
use native.Mathlib.Nat.{sub-zero}
use Rattle.std.proofs.lemmas.List.{take_rest}
use Rattle.std.proofs.lemmas.Bool.{cond-true, cond-false, eq-eqb, ne_eqb}
use Rattle.std.proofs.lemmas.List.Recursion.{is_count_by, same_from_clauses}
use Rattle.std.specs.List.{count_by, slice_split, onto_first}
use Rattle.paths.specs.Pieces.{front, later, pieces}

module _ (sep : ℕ) where
  pub front_stop : (b : ℕ) (bs : List ℕ) → b ≡ sep → front sep (b ∷ bs) ≡ []
  front_stop b bs e = cond-true (eqb b sep) _ _ (eq-eqb b sep e)

  pub front_go : (b : ℕ) (bs : List ℕ) → (b ≡ sep → ⊥) → front sep (b ∷ bs) ≡ b ∷ front sep bs
  front_go b bs n = cond-false (eqb b sep) _ _ (ne_eqb b sep n)

  pub later_stop : (b : ℕ) (bs : List ℕ) → b ≡ sep → later sep (b ∷ bs) ≡ pieces sep bs
  later_stop b bs e = cond-true (eqb b sep) _ _ (eq-eqb b sep e)

  pub later_go : (b : ℕ) (bs : List ℕ) → (b ≡ sep → ⊥) → later sep (b ∷ bs) ≡ later sep bs
  later_go b bs n = cond-false (eqb b sep) _ _ (ne_eqb b sep n)

  pub take-front : (s : List ℕ) → take (length (front sep s)) s ≡ front sep s
  take-front [] = refl
  take-front (b ∷ bs) =
      elim (eqb b sep) as (λ t. take (length (cond t [] (b ∷ front sep bs))) (b ∷ bs) ≡ cond t [] (b ∷ front sep bs)) [ true ↦ refl | false ↦ ap (λ l. b ∷ l) (take-front bs) ]

  pub later-none : (s : List ℕ) → length (front sep s) ≡ length s → later sep s ≡ []
  later-none [] h = refl
  later-none (b ∷ bs) h =
      elim (eqb b sep) as (λ t. length (cond t [] (b ∷ front sep bs)) ≡ suc (length bs) → cond t (pieces sep bs) (later sep bs) ≡ []) [
        | true ↦ λ e. absurd (omega arith)
        | false ↦ λ e. later-none bs (omega arith)
      ] h

  pub later-some : (s : List ℕ) → length (front sep s) < length s → later sep s ≡ pieces sep (drop (suc (length (front sep s))) s)
  later-some [] h = absurd (omega arith)
  later-some (b ∷ bs) h =
      elim (eqb b sep) as (λ t. length (cond t [] (b ∷ front sep bs)) < suc (length bs) → cond t (pieces sep bs) (later sep bs) ≡ pieces sep (drop (suc (length (cond t [] (b ∷ front sep bs)))) (b ∷ bs))) [
        | true ↦ λ e. refl
        | false ↦ λ e. later-some bs (omega arith)
      ] h

  pub later_count : (s : List ℕ) → length (later sep s) ≡ count_by (λ b. eqb b sep) s
  later_count = is_count_by (λ s. length (later sep s)) (λ b. eqb b sep) refl step where
    step : (b : ℕ) (bs : List ℕ) → length (cond (eqb b sep) (pieces sep bs) (later sep bs)) ≡ cond (eqb b sep) (1 + length (later sep bs)) (length (later sep bs))
    step b bs = elim (eqb b sep) as (λ t. length (cond t (pieces sep bs) (later sep bs)) ≡ cond t (1 + length (later sep bs)) (length (later sep bs))) [ true ↦ omega arith | false ↦ refl ]

  -- the pieces are the parts of the library's `split`
  pub split_pieces : (s : List ℕ) → slice_split (λ b. eqb b sep) s ≡ pieces sep s
  split_pieces = same_from_clauses (slice_split (λ b. eqb b sep)) (pieces sep) (λ b ps. cond (eqb b sep) ([] ∷ ps) (onto_first b ps)) refl (λ _ _. refl) step where
    step : (b : ℕ) (bs : List ℕ) → pieces sep (b ∷ bs) ≡ cond (eqb b sep) ([] ∷ pieces sep bs) (onto_first b (pieces sep bs))
    step b bs = elim (eqb b sep) as (λ t. ◌≡◌ {A = List (List ℕ)} (cond t [] (b ∷ front sep bs) ∷ cond t (pieces sep bs) (later sep bs)) (cond t ([] ∷ pieces sep bs) (onto_first b (pieces sep bs)))) [ true ↦ refl | false ↦ refl ]

  -- ---- the first name, as the code cuts it

  module _ (s : List ℕ) (e : ℕ) (is : e ≡ length (front sep s)) where
    pub cut-front : take (e - 0) s ≡ front sep s
    cut-front = ap (λ n. take n s) (sub-zero e ∙ is) ∙ take-front s

    pub cut_later : e < length s → later sep s ≡ pieces sep (take (length s - (e + 1)) (drop (e + 1) s))
    cut_later lt =
        later-some s (omega arith) ∙ ap (λ n. pieces sep (drop n s)) (ap suc (sym is) ∙ sym (add-one e)) ∙ ap (pieces sep) (sym (take_rest s (e + 1)))
