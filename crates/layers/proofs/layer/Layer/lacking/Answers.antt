use Rattle.std.proofs.Common.{not, ◌∙◌, rules}
use Rattle.std.proofs.lemmas.Iterator.Consumers.{YieldsList-from_first, YieldsList-from_filter, count_from_yields_List}
use Rattle.paths.specs.Names.{prefixes}
use Rattle.paths.specs.Paths.{names}
use Rattle.rows.specs.Maps.{has}
use Rattle.layers.specs.Layers.{marks_of}
use Rattle.layers.proofs.Lacks.{lacking_filter}
use Rattle.layers.proofs.layer.Layer.lacking.Goals as goal

pub returns-clause-value : goal.returns-clause-value
returns-clause-value c =
    let m = marks_of c.args.self.now in
    let ups = prefixes (names c.args.path.now) in
    count_from_yields_List c.filter.result c.count.result c.count.ensures.ran
    (YieldsList-from_filter _ (λ q. not (has m q)) (YieldsList-from_first names (λ l. l) ups (search rules)) c.filter.ensures.closure (λ x b q k. search rules))
    ∙ lacking_filter m ups
