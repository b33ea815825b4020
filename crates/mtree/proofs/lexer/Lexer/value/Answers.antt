use Rattle.std.proofs.Common.{◌≡◌, true, false, sym, ap, ◌∙◌}
use Rattle.std.proofs.lemmas.Bool.{cond-true, cond-false}
use Rattle.paths.specs.Names.{same}
use Rattle.mtree.proofs.Lexing.{value_of, expected_is, same_is, not_keyword}
use Rattle.mtree.proofs.lexer.Lexer.value.Goals as goal
use Rattle.mtree.proofs.lexer.Lexer.value.Goals.{in_default-via-in-Keyword+else-eq, in_default-via-in_default}

pub returns-in-Keyword-clause-value : goal.returns-in-Keyword-clause-value
returns-in-Keyword-clause-value c =
    let wanted = c.args.wanted.now in
    let name = c.in-Keyword.name.text.now in
    let l = c.args.self.now in
    let found : same wanted name ≡ true = same_is wanted name ∙ sym c.eq.ensures ∙ c.if-eq.true in
    expected_is wanted l.line.now l.at c.requires ∙ ap (value_of wanted) (sym c.in-Keyword.ensures.token) ∙ cond-true (same wanted name) _ _ found

pub returns-in_default-clause-value : goal.returns-in_default-clause-value
returns-in_default-clause-value c =
    let wanted = c.args.wanted.now in
    let l = c.args.self.now in
    expected_is wanted l.line.now l.at c.requires
    ∙ (elim c.in_default.branch [
      | in_default-via-in-Keyword+else-eq w ↦
          let name = w.in-Keyword.name.text.now in
          let other : same wanted name ≡ false = same_is wanted name ∙ sym w.eq.ensures ∙ w.if-eq.false in
          ap (value_of wanted) (sym w.in-Keyword.ensures.token) ∙ cond-false (same wanted name) _ _ other
      | in_default-via-in_default w ↦ ap (value_of wanted) (sym c.token.ensures.token) ∙ not_keyword wanted c.token.result w.in_default.not-Keyword
    ])
