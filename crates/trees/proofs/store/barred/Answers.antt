use Rattle.std.proofs.Common.{rules, tests, ◌∙◌}
use Rattle.std.proofs.lemmas.Iterator.Consumers.{YieldsList-from_first}
use Rattle.std.proofs.lemmas.Iterator.Search.{any_from_yields_List}
use Rattle.paths.specs.Names.{prefixes}
use Rattle.paths.specs.Paths.{names}
use Rattle.rows.specs.Maps.{at}
use Rattle.trees.specs.Entries.{is_file}
use Rattle.trees.proofs.Prefixed.{barred_any}
use Rattle.trees.proofs.store.barred.Goals as goal

pub returns : goal.returns
returns g c =
    let rs = (g.S.Store.stored c.args.store.now).rows in
    let ups = prefixes (names c.args.path.now) in
    any_from_yields_List (λ p. is_file (at rs p)) _ _ _ c.any.ensures.ran (YieldsList-from_first names (λ l. l) ups c.prefixes.ensures.value) (λ x r q k. search (rules, tests)) ∙ barred_any rs ups
