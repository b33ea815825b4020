use Rattle.std.proofs.Common.{◌≡◌, suc, zero-add, length, eqb, sym, ap, ◌∙◌, arith, rules}
use Rattle.std.specs.Option.{option_map}
use Rattle.std.proofs.lemmas.Iterator.{YieldsList-from_slice}
use Rattle.std.proofs.lemmas.Iterator.Consumers.{YieldsList-at, YieldsList-from_enumerate, YieldsList-from_filter, nth_from_yields_List}
use borrow.Author.Tests.{tests}
use Rattle.paths.proofs.Steps.{span, place_or, span_place, span-split}
use Rattle.paths.proofs.scan.prefix_end.Goals as goal

pub returns-clause-value : goal.returns-clause-value
returns-clause-value c =
    let s = c.args.s.now in
    let at = nth_from_yields_List c.nth.result _ c.in-Some.passed c.nth.ensures.ran (YieldsList-from_filter _ (λ p. eqb p.1 47) (YieldsList-at c.filter.ensures.source (YieldsList-from_enumerate (YieldsList-at c.enumerate.ensures.source (YieldsList-from_slice s cc)) c.enumerate.ensures.count)) c.filter.ensures.closure (λ x r q k. search (rules, tests))) in
    let m : c.map_or.result ≡ place_or (length s) (option_map (λ p. (p.0, p.1.now)) c.nth.result) = search rules in
    let k : suc c.in-Some.passed ≡ c.args.k = omega (arith, c.in-Some.ensures) in
    m ∙ ap (place_or (length s)) at ∙ simp zero-add at (span_place s c.in-Some.passed 0) ∙ ap (λ n. span n s) k ∙ sym (span-split s c.args.k)
