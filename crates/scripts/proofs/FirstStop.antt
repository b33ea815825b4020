-- The number with which a script is refused. Assumes nothing.
use Rattle.std.proofs.Common.{◌≡◌, ℕ, zero, suc, ◌+◌, ◌-◌, ◌<◌, List, [], ◌∷◌, ◌++◌, length, take, Some, None, Ok, Err, Option, refl, ap, ◌∙◌, arith}
use Rattle.std.specs.Option.{ok_or}
use Rattle.std.specs.List.{AllByRecursion as All}
use Rattle.paths.specs.Steps.{and_then, and_then_some}
use Rattle.words.proofs.Splits.{Lacks}
use Rattle.scripts.specs.Lines.{line_of}
use Rattle.scripts.specs.Scripts.{Requests, nothing, with_line, lines_of, script_from, script_of}
use Rattle.scripts.specs.Written.{text_of_lines}
use Rattle.scripts.specs.Laws.{FirstUnreadable}
use Rattle.scripts.proofs.Turns.{script_turn, script_stop}
use Rattle.scripts.proofs.CutLines.{lines_more, lines_back, lines_lack}

-- lines that are counted from n and refused with m: k of them are read, and the next is not
abbrev Stops : ℕ → ℕ → Requests → List (List ℕ) → Type 0
Stops n m s ls =
    (k : ℕ) × (m ≡ n + k) × (k < length ls) × ((t : Requests) × (script_from n s (take k ls) ≡ Ok t)) × ((more : List (List ℕ)) → script_from n s (take (suc k) ls ++ more) ≡ Err m)

stops : (ls : List (List ℕ)) (n m : ℕ) (s : Requests) → script_from n s ls ≡ Err m → Stops n m s ls
unfolding script_from
stops [] n m s h = cc
stops (l ∷ ls) n m s h = go (and_then_some (line_of l) (with_line s)) refl (λ t g. stops ls (n + 1) m t g) h where
  go : (o : Option Requests) → and_then_some (line_of l) (with_line s) ≡ o → ((t : Requests) → script_from (n + 1) t ls ≡ Err m → Stops (n + 1) m t ls) → and_then (ok_or o n) (λ t. script_from (n + 1) t ls) ≡ Err m → Stops n m s (l ∷ ls)
  go None e on g =
      let is : n ≡ m = cc in
      (0, omega arith, omega arith, (s, refl), λ more. script_stop n s (l ∷ more) l more refl e ∙ g)
  go (Some t) e on g =
      let r = on t g in
      (suc r.0, omega (arith, r.1), omega (arith, r.2), (r.3.0, script_turn n s (l ∷ take r.0 ls) l (take r.0 ls) refl t e ∙ r.3.1), λ more. script_turn n s (l ∷ (take (suc r.0) ls ++ more)) l (take (suc r.0) ls ++ more) refl t e ∙ r.4 more)

all_take : {A : Type 0} (P : A → Type 0) (n : ℕ) (xs : List A) → All P xs → All P (take n xs)
all_take P zero xs a = tt
all_take P (suc n) [] a = tt
all_take P (suc n) (x ∷ xs) a = (a.0, all_take P n xs a.1)

pub unreadable : (text : List ℕ) (n : ℕ) → script_of text ≡ Err n → FirstUnreadable text n
unreadable text n h =
    let r = stops (lines_of text) 1 n nothing h in
    let k : ℕ = r.0 in
    let before : n - 1 ≡ k = omega (arith, r.1) in
    let with : n ≡ suc k = omega (arith, r.1) in
    let lacks : (j : ℕ) → All (Lacks 10) (take j (lines_of text)) = λ j. all_take (Lacks 10) j (lines_of text) (lines_lack text) in
    record {
      there = (omega (arith, r.1), omega (arith, r.1, r.2));
      before = (r.3.0, ap (λ j. script_of (text_of_lines (take j (lines_of text)))) before ∙ ap (script_from 1 nothing) (lines_back (take k (lines_of text)) (lacks k)) ∙ r.3.1);
      refused = λ behind. ap (λ j. script_of (text_of_lines (take j (lines_of text)) ++ behind)) with ∙ ap (script_from 1 nothing) (lines_more (take (suc k) (lines_of text)) behind (lacks (suc k))) ∙ r.4 (lines_of behind);
    }
