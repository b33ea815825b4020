-- The table with the new rows among its own.
use Rattle.std.proofs.Common.{◌+◌, ◌≤◌, leb, length, sym, arith}
use Rattle.std.proofs.lemmas.Bool.{and_from, le-leb}
use Rattle.std.proofs.lemmas.List.{length-map}
use Rattle.rows.specs.Maps.{ascending}
use Rattle.rows.specs.Rows.{row_of, rows_of}
use Rattle.rows.specs.Tables.{spliced}
use Rattle.rows.proofs.Tables.{went_well, spliced_in, length-inserted, listed_inserted, rises-inserted}
use Rattle.rows.proofs.table.Table.insert.Goals as goal

pub invariant_of-self : goal.invariant_of-self
invariant_of-self g c =
    let xs = c.args.self.now.rows.items in
    let ns = c.args.new.now in
    let all = c.try_extend_from_slice.new.self.items in
    let room : length xs + length ns ≤ g.row.N = omega (arith, c.if-remaining_capacity-new.false, c.remaining_capacity.ensures) in
    let grown = went_well c.try_extend_from_slice.result (c.try_extend_from_slice.ensures.variant.1 room) c.try_extend_from_slice.ensures.ok in
    record {
      fits = omega (arith, room, length-inserted c.sorted.result.rows.now xs ns all c.as_mut_slice.result.now c.put_before.new.items c.in-Some.at c.sorted.ensures c.in-Some.ensures grown c.as_mut_slice.ensures.value c.put_before.ensures);
      rises = rises-inserted c.sorted.result.rows.now xs ns all c.as_mut_slice.result.now c.put_before.new.items c.in-Some.at c.sorted.ensures c.in-Some.ensures grown c.as_mut_slice.ensures.value c.put_before.ensures;
    }

pub returns-clause-answer : goal.returns-clause-answer
returns-clause-answer g c =
    let xs = c.args.self.now.rows.items in
    let ns = c.args.new.now in
    let room : length xs + length ns ≤ g.row.N = omega (arith, c.if-remaining_capacity-new.false, c.remaining_capacity.ensures) in
    let grown = went_well c.try_extend_from_slice.result (c.try_extend_from_slice.ensures.variant.1 room) c.try_extend_from_slice.ensures.ok in
    let place = spliced_in c.sorted.result.rows.now xs ns c.sorted.ensures c.in-Some.at c.in-Some.ensures in
    sym (and_from (leb (length (rows_of xs) + length (rows_of ns)) g.row.N) (ascending (spliced (rows_of ns) (rows_of xs))) (le-leb _ _ (omega (arith, room, length-map xs row_of, length-map ns row_of))) place.rises)

pub returns-clause-rows : goal.returns-clause-rows
returns-clause-rows g c =
    let xs = c.args.self.now.rows.items in
    let ns = c.args.new.now in
    let all = c.try_extend_from_slice.new.self.items in
    let room : length xs + length ns ≤ g.row.N = omega (arith, c.if-remaining_capacity-new.false, c.remaining_capacity.ensures) in
    let grown = went_well c.try_extend_from_slice.result (c.try_extend_from_slice.ensures.variant.1 room) c.try_extend_from_slice.ensures.ok in
    listed_inserted c.sorted.result.rows.now xs ns all c.as_mut_slice.result.now c.put_before.new.items c.in-Some.at c.sorted.ensures c.in-Some.ensures grown c.as_mut_slice.ensures.value c.put_before.ensures
