-- Calls on a session and what they give back, by the bytes in them. Assumes nothing.
use Rattle.std.specs.Prelude.{ℕ, cond, List, Ok, Err, Option, Result, vec_items, nat_lt}
use Rattle.trees.specs.declared.entry.Entry.{Entry}
use Rattle.trees.specs.declared.fault.Fault.{Fault}
use Rattle.trees.specs.declared.fault.Fault.TheVariants.{ShortBuffer}
use Rattle.edits.specs.declared.action.Action.{Action}
use Rattle.archive.specs.declared.call.Call.{Call}
use Rattle.archive.specs.declared.call.Call.TheVariants as call
use Rattle.archive.specs.declared.reply.Reply.{Reply}
use Rattle.archive.specs.declared.reply.Reply.TheVariants as reply

-- a call with its arguments, the bytes of a lent buffer among them
pub data Request : Type 0 where
  look : List ℕ → Request
  next : List ℕ → List ℕ → List ℕ → Request
  list : List ℕ → Request
  room : Request
  need : List ℕ → Request
  edit : List ℕ → Action → Request

-- what a call gives back, the bytes of the buffer among it
pub data Response : Type 0 where
  looked : Result Entry Fault → Response
  named : Result (Option ℕ) Fault → List ℕ → Response
  listed : Result ℕ Fault → List ℕ → Response
  left : ℕ → Response
  needed : Result ℕ Fault → Response
  edited : Result (Unit {0}) Fault → Response

abbrev pub request_of : Call → Request
request_of (call.Look p) = look (vec_items p)
request_of (call.Next p a b) = next (vec_items p) (vec_items a) (vec_items b)
request_of (call.List b) = list (vec_items b)
request_of call.Room = room
request_of (call.Need p) = need (vec_items p)
request_of (call.Edit p a) = edit (vec_items p) a

abbrev pub response_of : Reply → Response
response_of (reply.Looked r) = looked r
response_of (reply.Next r b) = named r (vec_items b)
response_of (reply.Listed r b) = listed r (vec_items b)
response_of (reply.Room n) = left n
response_of (reply.Need r) = needed r
response_of (reply.Edited r) = edited r

-- whether a vector with room for so many replies more takes those to so many calls: it is a buffer that is lent
abbrev pub room_for : ℕ → ℕ → Result (Unit {0}) Fault
room_for free calls = cond (nat_lt free calls) (Err ShortBuffer) (Ok tt)
