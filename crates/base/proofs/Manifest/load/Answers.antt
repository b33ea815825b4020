use Rattle.std.proofs.Common.{length, sym, subst, true, ◌≡◌}
use Rattle.rows.specs.Rows.{rows_of}
use Rattle.trees.specs.Entries.{is_tree}
use Rattle.manifests.proofs.BuiltRows.{indexed-built}
use Rattle.base.proofs.Manifest.load.Goals as goal

pub invariant_of-self : goal.invariant_of-self
invariant_of-self c =
    let said = c.in_ok-self.ensures in
    record { built = subst (λ z. is_tree z ≡ true) (sym said.1) (indexed-built (length c.args.rows.now) c.args.text.now (rows_of c.args.rows.now) said.0) }
