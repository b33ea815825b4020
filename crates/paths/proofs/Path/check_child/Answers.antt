use Rattle.std.proofs.Common.{◌≡◌, ◌+◌, [], ◌∷◌, ◌++◌, length, sym, ap, ◌∙◌, subst, arith}
use Rattle.std.proofs.lemmas.Bool.{cond-true, cond-false, eq-eqb, ne_eqb}
use Rattle.paths.specs.Names.{join, fault_in, Checked}
use Rattle.paths.specs.Paths.{text, names}
use Rattle.paths.proofs.Joins.{child_long, child_too_long, child_short}
use Rattle.paths.proofs.Same.{text_long}
use Rattle.paths.proofs.Path.check_child.Goals as goal
use Rattle.paths.proofs.Path.check_child.Goals.{then-self-eq0, else-self-eq0, Joined-self-eq0}

-- the length that was computed is that of the child
whole-is : (c : Joined-self-eq0) → length (join (names c.args.self.now ++ c.args.name.now ∷ [])) ≡ c.if-self-eq0.whole
whole-is c =
    let p = c.args.self.now in
    let name = c.args.name.now in
    let l = text_long p in
    child_long (text p) name ∙ elim c.if-self-eq0.branch [
      | then-self-eq0 w ↦ cond-true _ _ _ (eq-eqb _ 0 (l ∙ w.if-self-eq0.true)) ∙ sym w.whole-is
      | else-self-eq0 w ↦ cond-false _ _ _ (ne_eqb _ 0 (λ z. w.if-self-eq0.false (sym l ∙ z))) ∙ ap (λ n. n + 1 + length name) l ∙ sym w.whole-is
    ]

pub returns-then-whole-gt120 : goal.returns-then-whole-gt120
returns-then-whole-gt120 c =
    let e = whole-is (goal.at.returns-then-whole-gt120 c).Joined-self-eq0 in
    child_too_long (names c.args.self.now) c.args.name.now (omega arith)

pub returns : goal.returns
returns c =
    let e = whole-is (goal.at.returns c).Joined-self-eq0 in
    let name = c.args.name.now in
    let short = child_short (names c.args.self.now) name (omega arith) ∙ ap (λ k. fault_in k (name ∷ [])) (sym c.depth.ensures.value) in
    subst (λ o. Checked o c.check_name.result) (sym short) c.check_name.ensures
