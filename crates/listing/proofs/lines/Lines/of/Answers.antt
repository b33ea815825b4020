use Rattle.std.proofs.Common.{◌≡◌, rules}
use Rattle.std.specs.Option.{option_map}
use Rattle.listing.proofs.Roots.{all_left}
use Rattle.listing.proofs.lines.Lines.of.Goals as goal

pub returns : goal.returns
returns g c =
    let e : c.map.result ≡ option_map (λ x. c.root-root.result) c.entry_at.result = search rules in
    all_left (g.T.Tree.entries c.args.tree.now) c.root-root.result c.entry_at.result c.map.result c.root-root.ensures c.entry_at.ensures e
