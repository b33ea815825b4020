use Rattle.std.proofs.Common.{rules, tests, ◌∙◌}
use Rattle.std.proofs.lemmas.Iterator.Consumers.{YieldsList-from_first, YieldsList-from_filter, count_from_yields_List}
use Rattle.paths.specs.Names.{prefixes}
use Rattle.paths.specs.Paths.{names}
use Rattle.rows.specs.Maps.{has}
use Rattle.trees.proofs.Prefixed.{held_filter}
use Rattle.trees.proofs.store.present.Goals as goal

pub returns : goal.returns
returns g c =
    let rs = (g.S.Store.stored c.args.store.now).rows in
    let ups = prefixes (names c.args.path.now) in
    count_from_yields_List c.filter.result _ c.count.ensures.ran (YieldsList-from_filter _ (λ p. has rs p) (YieldsList-from_first names (λ l. l) ups (search rules)) c.filter.ensures.closure (λ x r q k. search (rules, tests))) ∙ held_filter rs ups
