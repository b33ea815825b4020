-- The value is written over the one that is there, or a row is put in.
use Rattle.std.proofs.Common.{◌≡◌, false, cond, ◌||◌, [], ◌∷◌, length, ltb, sym, ap, ◌∙◌}
use Rattle.std.proofs.lemmas.Bool.{cond-true}
use Rattle.paths.specs.Paths.{names}
use Rattle.rows.specs.Maps.{has}
use Rattle.rows.specs.Tables.{listed, spliced, splices}
use Rattle.rows.proofs.Sets.{set_replaced, one_splices, set_spliced}
use Rattle.rows.proofs.table.Table.set.Goals as goal

pub returns-then-replace-clause-rows : goal.returns-then-replace-clause-rows
returns-then-replace-clause-rows g c =
    let rs = listed c.args.self.now in
    let p = names c.args.path.now in
    c.replace.ensures.rows
    ∙ sym (set_replaced rs p c.args.value c.args.self.now.rises (sym c.replace.ensures.answer ∙ c.if-replace.true))
    ∙ sym (cond-true c.replace.result _ rs c.if-replace.true)

pub returns-else-replace-clause-answer : goal.returns-else-replace-clause-answer
returns-else-replace-clause-answer g c =
    let rs = listed c.args.self.now in
    let p = names c.args.path.now in
    let none : has rs p ≡ false = sym c.replace.ensures.answer ∙ c.if-replace.false in
    c.insert.ensures.answer
    ∙ ap (λ t. splices g.row.N ((p, c.args.value) ∷ []) (listed t)) (c.replace.ensures.same c.if-replace.false)
    ∙ one_splices p c.args.value rs c.args.self.now.rises none g.row.N
    ∙ sym (ap (λ b. b || ltb (length rs) g.row.N) none)

pub returns-else-replace-clause-rows : goal.returns-else-replace-clause-rows
returns-else-replace-clause-rows g c =
    let rs = listed c.args.self.now in
    let p = names c.args.path.now in
    let none : has rs p ≡ false = sym c.replace.ensures.answer ∙ c.if-replace.false in
    c.insert.ensures.rows
    ∙ ap (λ t. cond c.insert.result (spliced ((p, c.args.value) ∷ []) (listed t)) (listed t)) (c.replace.ensures.same c.if-replace.false)
    ∙ ap (λ z. cond c.insert.result z rs) (sym (set_spliced p c.args.value rs c.args.self.now.rises none))
