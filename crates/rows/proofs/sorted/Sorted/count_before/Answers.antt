-- The rows that come before the position stand in front.
use Rattle.std.proofs.Common.{rules}
use Rattle.std.proofs.lemmas.List.Sorted.{IsPartitionPoint-from_clause}
use Rattle.rows.specs.Positions.{place_of}
use Rattle.rows.proofs.Leads.{is_ahead, ahead-parted, lead-point}
use Rattle.rows.proofs.sorted.Sorted.count_before.Goals as goal

pub returns-clause-value : goal.returns-clause-value
returns-clause-value g c =
    let s = c.args.self.now in
    let p = place_of c.args.position in
    lead-point p s.rows.now c.partition_point.result c.partition_point.ensures.bound (IsPartitionPoint-from_clause (is_ahead p) s.rows.now c.partition_point.result c.partition_point.ensures.partitioned (ahead-parted p s.rows.now s.rises) (λ a r f' k. search rules))
