use Rattle.std.proofs.Common.{◌≡◌, length, sym, refl, ap, ◌∙◌, rules, add-one}
use Rattle.std.proofs.lemmas.Iterator.{YieldsList-from_slice, IsFirst-from_position, index_from_first}
use borrow.Author.Tests.{tests}
use Rattle.paths.specs.Pieces.{front}
use Rattle.paths.proofs.Fronts.{front_stop, front_go}
use Rattle.paths.proofs.parts.front_len.Goals as goal

pub returns-clause-value : goal.returns-clause-value
returns-clause-value c =
    let sep = c.args.separator in
    let s = c.args.text.now in
    c.unwrap_or.ensures ∙ sym (index_from_first (λ s. length (front sep s)) (λ b. b ≡ sep) (λ b. b ≡ sep → ⊥) refl
    (λ b bs e. ap length (front_stop sep b bs e))
    (λ b bs n. ap length (front_go sep b bs n) ∙ sym (add-one _))
    s _ (IsFirst-from_position _ _ _ (λ b. b ≡ sep) (λ b. b ≡ sep → ⊥) c.position.ensures.ran (YieldsList-from_slice s cc) (λ x q k. search (rules, tests)) (λ x q k. search (rules, tests))))
