use Rattle.std.proofs.Common.{◌≡◌, map, take}
use Rattle.archive.specs.Calls.{request_of}
use Rattle.replies.specs.Replies.{call_name}
use Rattle.refits.proofs.given.names_of.Given as goal

abbrev pub invariant-loop-call : goal.invariant-loop-call
invariant-loop-call l = map (λ s. s.now) l.names.items ≡ map (λ c. call_name (request_of c)) (take l.call-index l.calls)
