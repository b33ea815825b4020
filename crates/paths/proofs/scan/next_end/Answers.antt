use Rattle.std.proofs.Common.{◌≡◌, ◌+◌, length, drop, take, ap, ◌∙◌, arith}
use Rattle.std.proofs.lemmas.List.{take_rest}
use Rattle.paths.specs.Pieces.{front}
use Rattle.paths.specs.Names.{split, join}
use Rattle.paths.proofs.Steps.{next_none, next_first, next_some}
use Rattle.paths.proofs.scan.next_end.Goals as goal
use Rattle.paths.proofs.scan.next_end.Goals.{then-k-eq0, else-k-eq0}

pub returns-then-end-s : goal.returns-then-end-s
returns-then-end-s c = next_none c.args.s.now c.args.k c.args.end c.requires c.if-end-s.true

pub returns : goal.returns
returns c =
    let s = c.args.s.now in
    let start = c.if-k-eq0.start in
    let found : c.front_len.result ≡ length (front 47 (drop start s)) = c.front_len.ensures.value ∙ ap (λ l. length (front 47 l)) (take_rest s start) in
    elim c.if-k-eq0.branch [
      | then-k-eq0 w ↦ omega (arith, found, w.start-is, ap (λ n. length (front 47 (drop n s))) w.start-is, next_first s, ap (λ n. length (join (take (n + 1) (split s)))) w.if-k-eq0.true)
      | else-k-eq0 w ↦ omega (arith, found, w.start-is, ap (λ n. length (front 47 (drop n s))) w.start-is, next_some s c.args.k c.args.end (omega (arith, w.if-k-eq0.false)) c.requires c.if-end-s.false)
    ]
