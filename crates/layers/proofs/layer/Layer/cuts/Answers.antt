use Rattle.std.proofs.Common.{length, ◌∙◌, rules}
use Rattle.std.proofs.lemmas.Iterator.{YieldsList-from_take}
use Rattle.std.proofs.lemmas.Iterator.Consumers.{YieldsList-from_first}
use Rattle.std.proofs.lemmas.Iterator.Search.{any_from_yields_List}
use Rattle.paths.specs.Names.{prefixes}
use Rattle.paths.specs.Paths.{names}
use Rattle.rows.specs.Maps.{at}
use Rattle.marks.specs.Marks.{stops}
use Rattle.layers.specs.Layers.{marks_of}
use Rattle.layers.proofs.Lacks.{any_proper}
use Rattle.layers.proofs.layer.Layer.cuts.Goals as goal

pub returns : goal.returns
returns c =
    let m = at (marks_of c.args.self.now) in
    let p = names c.args.path.now in
    any_from_yields_List (λ q. stops (m q)) _ _ c.any.result c.any.ensures.ran (YieldsList-from_take (length p) (YieldsList-from_first names (λ l. l) (prefixes p) (search rules)) (search rules)) (λ x b q k. search rules) ∙ any_proper (λ q. stops (m q)) p
