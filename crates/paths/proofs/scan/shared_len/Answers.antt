use Rattle.std.proofs.Common.{◌≡◌, length, rules}
use Rattle.std.specs.Option.{unwrap_or}
use Rattle.std.specs.List.{zip}
use Rattle.std.proofs.lemmas.Iterator.{YieldsList-from_slice, YieldsList-from_zip, IsFirst-from_position}
use Rattle.std.proofs.lemmas.Iterator.Consumers.{YieldsList-at}
use Rattle.std.proofs.lemmas.Slice.Zip.{length-zip}
use borrow.Author.Tests.{tests}
use Rattle.paths.proofs.Shared.{Alike, Unlike, IsFirst, same_until, differ_after}
use Rattle.paths.proofs.scan.shared_len.Goals as goal

first : (c : goal.After-unwrap_or) → IsFirst c.args.a.now c.args.b.now c.position.result
first c =
    let second : c.zip.result.b.rest.now ≡ c.args.b.now = c.zip.ensures.second.0 in
    IsFirst-from_position c.position.new.self _ _ Unlike Alike c.position.ensures.ran (YieldsList-from_zip (YieldsList-at c.zip.ensures.first (YieldsList-from_slice c.args.a.now cc)) (YieldsList-from_slice c.args.b.now second)) (λ x q k. search (rules, tests)) (λ x q k. search (rules, tests))

at : (c : goal.After-unwrap_or) → c.unwrap_or.result ≡ unwrap_or c.position.result (length (zip c.args.a.now c.args.b.now))
at c = search (rules, length-zip)

pub returns-clause-same : goal.returns-clause-same
returns-clause-same c = same_until c.args.a.now c.args.b.now c.position.result _ (first c) (at c)

pub returns-clause-most : goal.returns-clause-most
returns-clause-most c = differ_after c.args.a.now c.args.b.now c.position.result _ (first c) (at c)
