use Rattle.std.proofs.Common.{◌≡◌, ℕ, ◌+◌, ◌<◌, ◌≤◌, List, [], length, take, Some, None, Option, MatchOption, slice_range, Bor, ◌⊎◌, ⊎_elim, sym, ap, ◌∙◌, arith}
use native.Mathlib.Nat.{sub-zero}
use Rattle.paths.specs.Pieces.{front, later, pieces}
use Rattle.paths.proofs.Fronts.{cut-front, cut_later, later-none}
use Rattle.mtree.proofs.pieces.cut.Goals as goal

pub returns-clause-before : goal.returns-clause-before
returns-clause-before c =
    let e = c.front_len-end.result in
    ap (λ n. take n c.args.text.now) (sym (sub-zero e)) ∙ cut-front c.args.separator c.args.text.now e c.front_len-end.ensures.value

behind : (sep : ℕ) (s : List ℕ) (e : ℕ) (r : Option (Bor (List ℕ))) → e ≡ length (front sep s) → e ≤ length s → MatchOption r ((length s < e + 1) ⊎ (length s < length s)) (λ x. (e + 1 ≤ length s) × (length s ≤ length s) × (x.now ≡ slice_range s (e + 1) (length s)) × (length x.now + (e + 1) ≡ length s)) → MatchOption r (later sep s ≡ []) (λ rest. later sep s ≡ pieces sep rest.now)
behind sep s e None is h m =
    let all : length s < e + 1 = ⊎_elim (λ l. l) (λ l. absurd (omega arith)) m in
    later-none sep s (omega arith)
behind sep s e (Some x) is h m = cut_later sep s e is (omega arith) ∙ ap (pieces sep) (sym m.2)

pub returns-clause-behind : goal.returns-clause-behind
returns-clause-behind c = behind c.args.separator c.args.text.now c.front_len-end.result c.get.result c.front_len-end.ensures.value c.front_len-end.ensures.within c.get.ensures.lookup.0
