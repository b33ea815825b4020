use Rattle.std.proofs.Common.{◌≡◌, List, length, true, false, Some, None, Ok, Option, Result, sym, ap, ◌∙◌, MatchOption, MatchResult}
use Rattle.std.proofs.lemmas.Bool.{both_ways}
use Rattle.std.specs.Option.{ok_or}
use Rattle.rows.specs.declared.row.Row.{Row as Stored}
use Rattle.manifests.specs.declared.fault.ManifestFault.{ManifestFault}
use Rattle.rows.specs.declared.sorted.Sorted.{Sorted}
use Rattle.rows.specs.Maps.{ascending}
use Rattle.rows.specs.Rows.{rows_of}
use Rattle.rows.specs.Sorts.{kept}
use Rattle.trees.specs.declared.entry.Entry.{Entry}
use Rattle.trees.specs.Entries.{Row}
use Rattle.trees.proofs.Closed.{tree_parts}
use Rattle.words.specs.declared.fault.Cause.TheVariants.{OtherRows}
use Rattle.manifests.specs.Manifests.{indexed, fault_at}
use Rattle.manifests.proofs.BuiltRows.{indexed-built}
use Rattle.base.specs.Loads.{Refused}
use Rattle.base.proofs.loading.check_rows.Goals as goal

-- rows that are those of the text do rise, so that they are taken
taken : (rows : List (Stored Entry)) (o : Option (Sorted Entry)) (f : ManifestFault) (said : Result (List Row) ManifestFault) → said ≡ Ok (rows_of rows) → ascending (rows_of rows) ≡ true → MatchOption o (ascending (rows_of rows) ≡ false) (λ s. (ascending (rows_of rows) ≡ true) × (s.rows.now ≡ rows)) → MatchResult (ok_or o f) (λ s. (said ≡ Ok (rows_of rows)) × (kept s ≡ rows_of rows)) (λ g. Refused (rows_of rows) said g)
taken rows None f said is a h = absurd (both_ways (ascending (rows_of rows)) h a)
taken rows (Some s) f said is a h = (is, ap rows_of h.1)

pub returns : goal.returns
returns c =
    let given = c.args.rows.now in
    let read = c.in_ok-is_index.ensures in
    let said : indexed (length given) c.args.text.now ≡ Ok (rows_of given) = read.1 ∙ ap Ok (sym (read.2.0 c.if-not-branch.false)) in
    let built = indexed-built (length given) c.args.text.now (rows_of given) said in
    rw c.ok_or.ensures.value (taken given c.new.result (fault_at 0 OtherRows) (indexed (length given) c.args.text.now) said (tree_parts (rows_of given) built).0 c.new.ensures)
