use Rattle.std.proofs.Common.{◌≡◌, ℕ, ◌+◌, Bor, List, [], ◌∷◌, eqb, length, drop, None, Some, ap, ◌∙◌, subst, rules}
use Rattle.std.proofs.lemmas.List.{length_push}
use Rattle.std.proofs.lemmas.Result.{err_from_is_err_and}
use Rattle.std.proofs.lemmas.Iterator.{YieldsList}
use Rattle.std.proofs.lemmas.Iterator.Consumers.{YieldsList-turn, YieldsList-end, YieldsList-at, YieldsList-from_enumerate}
use Rattle.std.proofs.lemmas.Iterator.Splits.{YieldsList-from_slice_split}
use borrow.Author.Tests.{tests}
use Rattle.paths.specs.Pieces.{pieces}
use Rattle.paths.specs.Names.{fault_in}
use Rattle.paths.proofs.Steps.{placed, placed_turn, placed_end}
use Rattle.paths.proofs.Joins.{fault_on, fault_stop}
use Rattle.paths.proofs.scan.check.Given as given
use Rattle.paths.proofs.scan.check.Goals as goal
use Rattle.paths.proofs.scan.check.Goals.{After-next}

-- the loop goes through the names with their places
road : (c : After-next) → YieldsList (given.iterator-loop-count).next_gives (λ p. (p.0, p.1.now)) c.into_iter-count-iterator.result (placed c.args.bytes.now)
road c = YieldsList-at c.into_iter-count-iterator.ensures.into_iter_gives (YieldsList-from_enumerate (YieldsList-at c.enumerate-count-items.ensures.source (YieldsList-from_slice_split _ (λ b. eqb b 47) c.args.bytes.now c.split.ensures.rest c.split.ensures.done c.split.ensures.closure (λ x b q k. search (rules, tests)))) c.enumerate-count-items.ensures.count)

-- this turn's name, and what is left
turn : (c : After-next) (x : ℕ × Bor (List ℕ)) → c.next.result ≡ Some x → (x.0 ≡ length c.loop-count.yielded) × (drop (length c.loop-count.yielded) (pieces 47 c.args.bytes.now) ≡ x.1.now ∷ drop (length c.loop-count.yielded + 1) (pieces 47 c.args.bytes.now))
turn c x is =
    let t = YieldsList-turn (road c) c.loop-count.yielded c.loop-count.count-iterator c.loop-count.yielded_by c.next.result c.next.new.self x is c.next.ensures.steps in
    placed_turn c.args.bytes.now (length c.loop-count.yielded) x.0 x.1.now t.0 t.1

pub loop-count-preserved : goal.loop-count-preserved
loop-count-preserved c =
    let x : ℕ × Bor (List ℕ) = (c.in-Some.count, c.in-Some.name) in
    let t = turn (goal.at.loop-count-preserved c).After-next x c.in-Some.is in
    let k = length c.loop-count.yielded in
    let good = subst (λ i. fault_in i (x.1.now ∷ []) ≡ None) t.0 c.in_ok-check_name.ensures in
    rw (length_push c.loop-count.yielded x) (c.loop-count.invariant ∙ ap (fault_in k) t.1 ∙ fault_on k x.1.now (drop (k + 1) (pieces 47 c.args.bytes.now)) good)

pub returns-in_err-check_name : goal.returns-in_err-check_name
returns-in_err-check_name c =
    let x : ℕ × Bor (List ℕ) = (c.in-Some.count, c.in-Some.name) in
    let t = turn (goal.at.returns-in_err-check_name c).After-next x c.in-Some.is in
    let k = length c.loop-count.yielded in
    let e = c.in_err-check_name.field-0.0 in
    let bad = subst (λ i. fault_in i (x.1.now ∷ []) ≡ Some e) t.0 c.in_err-check_name.ensures in
    let p = err_from_is_err_and c.from_residual.result c.from_residual.ensures.1 in
    rw (p.1, p.2) (c.loop-count.invariant ∙ ap (fault_in k) t.1 ∙ fault_stop k x.1.now (drop (k + 1) (pieces 47 c.args.bytes.now)) e bad)

pub returns : goal.returns
returns c =
    let end = YieldsList-end (road (goal.at.returns c).After-next) c.loop-count.yielded c.loop-count.count-iterator c.loop-count.yielded_by c.next.result c.next.new.self c.in-None.is c.next.ensures.steps in
    c.loop-count.invariant ∙ ap (fault_in (length c.loop-count.yielded)) (placed_end c.args.bytes.now _ end.1)
