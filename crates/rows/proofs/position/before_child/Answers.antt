-- Apart from `parent`, at it, or below one of its children.
use Rattle.std.proofs.Common.{sym, refl, ap, ◌∙◌}
use Rattle.std.proofs.lemmas.Bool.{both_ways, eq-eqb}
use Rattle.std.specs.Cmp.Lexicographic.{lists_agrees}
use Rattle.std.specs.Ordering.{is_some_and, is_le}
use Rattle.paths.specs.Names.{last_name}
use Rattle.paths.specs.Order.{by_bytes}
use Rattle.paths.specs.Paths.{names}
use Rattle.rows.proofs.Places.{apart_place, level_place, below-place, clean_path}
use Rattle.rows.proofs.position.before_child.Goals as goal

pub returns-then-not-is_prefix_of : goal.returns-then-not-is_prefix_of
returns-then-not-is_prefix_of c =
    c.lt.ensures ∙ apart_place (names c.args.parent.now) c.args.after.now (names c.args.path.now) (λ u. both_ways c.is_prefix_of.result c.if-not-is_prefix_of.true (c.is_prefix_of.ensures.1 u))

pub returns-then-depth : goal.returns-then-depth
returns-then-depth c =
    let u = c.is_prefix_of.ensures.0 c.if-not-is_prefix_of.false in
    eq-eqb _ _ c.if-depth.true ∙ sym (level_place (names c.args.parent.now) c.args.after.now (names c.args.path.now) u (sym c.depth.ensures.value ∙ c.if-depth.true ∙ c.depth-depth.ensures.value))

pub returns-else-depth : goal.returns-else-depth
returns-else-depth c =
    let u = c.is_prefix_of.ensures.0 c.if-not-is_prefix_of.false in
    c.le.ensures ∙ ap (is_some_and is_le) (lists_agrees (λ x y. refl) c.last_name.result.now c.args.after.now) ∙ ap (λ z. is_le (by_bytes z c.args.after.now)) (c.last_name.ensures ∙ ap last_name c.prefix.ensures)
    ∙ below-place (names c.args.parent.now) c.args.after.now (names c.args.path.now) u (clean_path c.args.path.now) (λ e. c.if-depth.false (c.depth.ensures.value ∙ e ∙ sym c.depth-depth.ensures.value)) c.depth-depth.result c.depth-depth.ensures.value
