-- The lines that a text is written with are those that it is cut into. Assumes nothing.
use Rattle.std.proofs.Common.{◌≡◌, ℕ, suc, ◌-◌, true, false, cond, eqb, List, [], ◌∷◌, ◌++◌, length, take, drop, sym, refl, ap, ◌∙◌, append_assoc, append-nil, arith}
use Rattle.std.proofs.lemmas.List.{length-append, take_at, drop_at}
use Rattle.std.proofs.lemmas.Bool.{cond-true, cond-false, ne_eqb}
use Rattle.std.specs.List.{AllByRecursion as All}
use Rattle.std.specs.Str.{bytes_eq}
use Rattle.paths.specs.Pieces.{pieces}
use Rattle.words.proofs.Splits.{Lacks, pieces-whole, pieces_part, pieces-lack}
use Rattle.scripts.specs.Scripts.{unended, lines_of}
use Rattle.scripts.specs.Written.{text_of_lines}

-- ---- the newline at the end

unended_end : (l : List ℕ) → unended (l ++ 10 ∷ []) ≡ l
unended_end l =
    let n : ℕ = length (l ++ 10 ∷ []) - 1 in
    let e : length l ≡ n = omega (arith, length-append l (10 ∷ [])) in
    cond-true (bytes_eq (drop n (l ++ 10 ∷ [])) (10 ∷ [])) (take n (l ++ 10 ∷ [])) (l ++ 10 ∷ []) (ap (λ d. bytes_eq d (10 ∷ [])) (drop_at l (10 ∷ []) n e))
    ∙ take_at l (10 ∷ []) n e

-- the text without what is behind n bytes, if that is a newline
abbrev cut_at : ℕ → List ℕ → List ℕ
cut_at n s = cond (bytes_eq (drop n s) (10 ∷ [])) (take n s) s

cut_more : (x n : ℕ) (s : List ℕ) → cut_at (suc n) (x ∷ s) ≡ x ∷ cut_at n s
cut_more x n s = elim (bytes_eq (drop n s) (10 ∷ [])) as (λ t. ◌≡◌ {A = List ℕ} (cond t (x ∷ take n s) (x ∷ s)) (x ∷ cond t (take n s) s)) [ true ↦ refl | false ↦ refl ]

unended_more : (x b : ℕ) (bs : List ℕ) → unended (x ∷ b ∷ bs) ≡ x ∷ unended (b ∷ bs)
unended_more x b bs =
    let long : length (x ∷ b ∷ bs) - 1 ≡ suc (length bs) = omega arith in
    let short : length bs ≡ length (b ∷ bs) - 1 = omega arith in
    ap (λ n. cut_at n (x ∷ b ∷ bs)) long ∙ cut_more x (length bs) (b ∷ bs) ∙ ap (λ n. x ∷ cut_at n (b ∷ bs)) short

unended_part : (l : List ℕ) (c b : ℕ) (bs : List ℕ) → unended (l ++ c ∷ b ∷ bs) ≡ l ++ c ∷ unended (b ∷ bs)
unended_part [] c b bs = unended_more c b bs
unended_part (x ∷ []) c b bs = unended_more x c (b ∷ bs) ∙ ap (λ l. x ∷ l) (unended_more c b bs)
unended_part (x ∷ y ∷ l) c b bs = unended_more x y (l ++ c ∷ b ∷ bs) ∙ ap (λ l. x ∷ l) (unended_part (y ∷ l) c b bs)

-- ---- the first line

lines_some : (s : List ℕ) → (length s ≡ 0 → ⊥) → lines_of s ≡ pieces 10 (unended s)
lines_some s some = cond-false (eqb (length s) 0) [] (pieces 10 (unended s)) (ne_eqb (length s) 0 some)

lines_first : (l t : List ℕ) → Lacks 10 l → lines_of (l ++ 10 ∷ t) ≡ l ∷ lines_of t
lines_first l [] a =
    lines_some (l ++ 10 ∷ []) (λ e. omega (arith, length-append l (10 ∷ []))) ∙ ap (pieces 10) (unended_end l) ∙ pieces-whole 10 l a
lines_first l (b ∷ bs) a =
    lines_some (l ++ 10 ∷ b ∷ bs) (λ e. omega (arith, length-append l (10 ∷ b ∷ bs)))
    ∙ ap (pieces 10) (unended_part l 10 b bs)
    ∙ pieces_part 10 l (unended (b ∷ bs)) a
    ∙ ap (λ k. l ∷ k) (sym (lines_some (b ∷ bs) (λ e. omega arith)))

-- ---- all lines

-- lines that are written, and a text behind them
pub lines_more : (ls : List (List ℕ)) (t : List ℕ) → All (Lacks 10) ls → lines_of (text_of_lines ls ++ t) ≡ ls ++ lines_of t
lines_more [] t a = refl
lines_more (l ∷ ls) t a =
    ap lines_of (append_assoc l (10 ∷ text_of_lines ls) t) ∙ lines_first l (text_of_lines ls ++ t) a.0 ∙ ap (λ k. l ∷ k) (lines_more ls t a.1)

pub lines_back : (ls : List (List ℕ)) → All (Lacks 10) ls → lines_of (text_of_lines ls) ≡ ls
lines_back ls a = ap lines_of (sym (append-nil (text_of_lines ls))) ∙ lines_more ls [] a ∙ append-nil ls

pub lines_lack : (s : List ℕ) → All (Lacks 10) (lines_of s)
lines_lack s =
    let h = pieces-lack 10 (unended s) in
    elim (eqb (length s) 0) as (λ t. All (Lacks 10) (cond t [] (pieces 10 (unended s)))) [ true ↦ tt | false ↦ h ]
