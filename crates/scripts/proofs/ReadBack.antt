-- A script that is written for calls reads back as those calls. Assumes nothing.
use Rattle.std.proofs.Common.{◌≡◌, ℕ, ◌+◌, List, [], ◌∷◌, ◌++◌, map, Some, None, Ok, Option, sym, refl, ap, ◌∙◌, append_assoc, append-nil}
use Rattle.std.specs.List.{AllByRecursion as All}
use Rattle.paths.specs.Steps.{and_then_some}
use Rattle.words.proofs.Splits.{Lacks, above_from, above-lacks}
use Rattle.trees.proofs.Fine.{all_append}
use Rattle.archive.specs.Calls.{Request}
use Rattle.scripts.specs.Verbs.{file_word}
use Rattle.scripts.specs.Lines.{line_of, file}
use Rattle.scripts.specs.Scripts.{Requests, with_line, script_from, script_of}
use Rattle.scripts.specs.Written.{call_line, later_lines, script_lines, script_text}
use Rattle.scripts.specs.Laws.{Askable, AskableLater, AskableScript}
use Rattle.scripts.proofs.Turns.{script_turn}
use Rattle.scripts.proofs.CutLines.{lines_back}
use Rattle.scripts.proofs.LineBack.{line_lacks, line_back}

-- ---- the text has just the lines

calls_lack : (rs : List Request) → All Askable rs → All (Lacks 10) (map call_line rs)
calls_lack [] a = tt
calls_lack (r ∷ rs) a = (line_lacks r a.0, calls_lack rs a.1)

later_lack : (later : Option (List Request)) → AskableLater later → All (Lacks 10) (later_lines later)
later_lack None a = tt
later_lack (Some rs) a = (above-lacks 10 file_word (above_from 10 file_word refl), calls_lack rs a)

-- ---- line by line

file_back : line_of file_word ≡ Some file
file_back = refl

later_back : (first : List Request) (rs done : List Request) (n : ℕ) → All Askable rs → script_from n (record { first = first; later = Some done }) (map call_line rs) ≡ Ok (record { first = first; later = Some (done ++ rs) })
unfolding script_from
later_back first [] done n a = ap (λ d. Ok (record { first = first; later = Some d })) (sym (append-nil done))
later_back first (r ∷ rs) done n a =
    let s : Requests = record { first = first; later = Some done } in
    script_turn n s (call_line r ∷ map call_line rs) (call_line r) (map call_line rs) refl (record { first = first; later = Some (done ++ r ∷ []) }) (ap (λ o. and_then_some o (with_line s)) (line_back r a.0))
    ∙ later_back first rs (done ++ r ∷ []) (n + 1) a.1
    ∙ ap (λ d. Ok (record { first = first; later = Some d })) (append_assoc done (r ∷ []) rs)

rest_back : (later : Option (List Request)) → AskableLater later → (done : List Request) (n : ℕ) → script_from n (record { first = done; later = None }) (later_lines later) ≡ Ok (record { first = done; later = later })
unfolding script_from
rest_back None a done n = refl
rest_back (Some rs) a done n =
    let s : Requests = record { first = done; later = None } in
    script_turn n s (file_word ∷ map call_line rs) file_word (map call_line rs) refl (record { first = done; later = Some [] }) (ap (λ o. and_then_some o (with_line s)) file_back)
    ∙ later_back done rs [] (n + 1) a

module _ (later : Option (List Request)) (b : AskableLater later) where
  first_back : (rs done : List Request) (n : ℕ) → All Askable rs → script_from n (record { first = done; later = None }) (map call_line rs ++ later_lines later) ≡ Ok (record { first = done ++ rs; later = later })
  first_back [] done n a = rest_back later b done n ∙ ap (λ d. Ok (record { first = d; later = later })) (sym (append-nil done))
  first_back (r ∷ rs) done n a =
      let s : Requests = record { first = done; later = None } in
      let ls : List (List ℕ) = map call_line rs ++ later_lines later in
      script_turn n s (call_line r ∷ ls) (call_line r) ls refl (record { first = done ++ r ∷ []; later = None }) (ap (λ o. and_then_some o (with_line s)) (line_back r a.0))
      ∙ first_back rs (done ++ r ∷ []) (n + 1) a.1
      ∙ ap (λ d. Ok (record { first = d; later = later })) (append_assoc done (r ∷ []) rs)

-- ---- the whole script

pub reads_back : (s : Requests) → AskableScript s → script_of (script_text s) ≡ Ok s
reads_back s a =
    let lacks : All (Lacks 10) (script_lines s) = all_append (Lacks 10) (map call_line s.first) (later_lines s.later) (calls_lack s.first a.0) (later_lack s.later a.1) in
    ap (script_from 1 (record { first = []; later = None })) (lines_back (script_lines s) lacks) ∙ first_back s.later a.1 s.first [] 1 a.0
