-- What one line adds to a script. Assumes nothing.
use Rattle.std.proofs.Common.{◌≡◌, ℕ, ◌+◌, ◌-◌, ◌≤◌, true, false, cond, eqb, List, [], ◌∷◌, length, take, drop, Some, None, Ok, Err, ap, ◌∙◌, arith}
use Rattle.std.proofs.lemmas.List.{length-take-le}
use Rattle.std.specs.Option.{ok_or}
use Rattle.std.specs.Str.{bytes_eq}
use Rattle.paths.specs.Pieces.{pieces}
use Rattle.paths.specs.Steps.{and_then, and_then_some}
use Rattle.scripts.specs.Lines.{line_of}
use Rattle.scripts.specs.Scripts.{Requests, with_line, unended, lines_of, script_from}
use Rattle.paths.proofs.Fronts.{later_count}
use Rattle.std.proofs.lemmas.List.Sums.{count_by-le-length}

unended_shorter : (s : List ℕ) → length (unended s) ≤ length s
unended_shorter s =
    elim (bytes_eq (drop (length s - 1) s) (10 ∷ [])) as (λ t. length (cond t (take (length s - 1) s) s) ≤ length s) [ true ↦ omega (arith, length-take-le (length s - 1) s (omega arith)) | false ↦ omega arith ]

-- there is no more than one line a byte, and one
pub lines_few : (s : List ℕ) → length (lines_of s) ≤ length s + 1
lines_few s =
    let h : length (pieces 10 (unended s)) ≤ length s + 1 = omega (arith, later_count 10 (unended s), count_by-le-length (λ b. eqb b 10) (unended s), unended_shorter s) in
    elim (eqb (length s) 0) as (λ t. length (cond t [] (pieces 10 (unended s))) ≤ length s + 1) [ true ↦ omega arith | false ↦ h ]

module _ (n : ℕ) (s : Requests) (ls : List (List ℕ)) where
  pub script_turn : (l : List ℕ) (rest : List (List ℕ)) → ls ≡ l ∷ rest → (t : Requests) → and_then_some (line_of l) (with_line s) ≡ Some t → script_from n s ls ≡ script_from (n + 1) t rest
  unfolding script_from
  script_turn l rest e t h = ap (script_from n s) e ∙ ap (λ o. and_then (ok_or o n) (λ t. script_from (n + 1) t rest)) h

  pub script_stop : (l : List ℕ) (rest : List (List ℕ)) → ls ≡ l ∷ rest → and_then_some (line_of l) (with_line s) ≡ None → script_from n s ls ≡ Err n
  unfolding script_from
  script_stop l rest e h = ap (script_from n s) e ∙ ap (λ o. and_then (ok_or o n) (λ t. script_from (n + 1) t rest)) h

  pub script_end : ls ≡ [] → script_from n s ls ≡ Ok s
  unfolding script_from
  script_end e = ap (script_from n s) e

pub ruleset script_steps = (lines_few, script_turn, script_stop, script_end)
