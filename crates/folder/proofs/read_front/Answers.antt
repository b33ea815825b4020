-- `read_to_end` gives all that `take` leaves.
use Rattle.std.proofs.Common.{◌≡◌, ◌++◌, take, IfSome, subst}
use Rattle.std.specs.Option.{option_map}
use Rattle.folder.proofs.Front.{front_read}
use Rattle.folder.proofs.read_front.Goals as goal

pub returns-clause-bytes : goal.returns-clause-bytes
returns-clause-bytes g c =
    let left = g.R.Read.remaining in
    let old = c.new-bytes.result.items in
    let read = c.read_to_end.new.buf.items in
    let inner = subst (λ x. IfSome (option_map (take c.take.result.limit) (left x)) (λ bs. read ≡ old ++ bs)) c.take.ensures.inner c.in_ok-read_to_end.ensures.bytes in
    front_read (left c.args.reader) 65537 old read c.truncate.new.self.items c.new-bytes.ensures.items (subst (λ n. IfSome (option_map (take n) (left c.args.reader)) (λ bs. read ≡ old ++ bs)) c.take.ensures.limit inner) c.truncate.ensures.items
