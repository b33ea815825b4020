-- What a plain map answers to a call, and what it is afterwards. Assumes nothing.
use Rattle.std.specs.Prelude.{ℕ, ◌-◌, List, length, Ok, Err, Option, Result}
use Rattle.paths.specs.declared.PathFault.{PathFault}
use Rattle.paths.specs.Names.{judge}
use Rattle.rows.specs.Maps.{Names}
use Rattle.trees.specs.declared.fault.Fault.{Fault}
use Rattle.trees.specs.Entries.{Entries}
use Rattle.trees.specs.Answers.{look_of, next_of, counted, put_name}
use Rattle.trees.specs.Buffers.{fitted, put_front}
use Rattle.listing.specs.Lines.{listing}
use Rattle.edits.specs.declared.action.Action.{Action}
use Rattle.edits.specs.Edits.{refusal, need_of, answered, unless_refused}
use Rattle.marks.specs.Plain.{Plain, unnoted, granted_plain, plain_of}
use Rattle.sessions.specs.declared.session.Session.{Session}
use Rattle.sessions.specs.Sessions.{marks_in, rows_below}
use Rattle.archive.specs.Calls.{Request, look, next, list, room, need, edit, Response, looked, named, listed, left, needed, edited}

-- the plain map of a session, over what its lower tree means
abbrev pub plain_in : {T : Type 0} → (T → Entries) → Session T → Plain
plain_in e s = plain_of (marks_in s) (rows_below e s)

-- ---- what is answered

-- how many rows are left: 192 minus the noted paths
abbrev pub room_in : Plain → ℕ
room_in s = 192 - length s.noted

-- why an edit is refused; None, where it is granted
abbrev pub refusal_in : Plain → List ℕ → Action → Option Fault
refusal_in s p a = refusal s.own (room_in s) (unnoted s.noted) p a

abbrev pub answer : Plain → Request → Response
answer s (look p) = looked (look_of s.own p)
answer s (next p a b) = named (counted (next_of s.own p a (length b))) (put_name (next_of s.own p a (length b)) b)
answer s (list b) = listed (fitted (listing s.own) (length b)) (put_front (listing s.own) b)
answer s room = left (room_in s)
answer s (need p) = needed (need_of (unnoted s.noted) p)
answer s (edit p a) = edited (answered (refusal_in s p a))

-- ---- what changes

abbrev pub granted_in : Plain → Action → Result Names PathFault → Plain
granted_in s a (Err f) = s
granted_in s a (Ok p) = granted_plain s p a

-- a granted edit changes the plain map, and nothing else does
abbrev pub after : Plain → Request → Plain
after s (look p) = s
after s (next p a b) = s
after s (list b) = s
after s room = s
after s (need p) = s
after s (edit p a) = unless_refused (refusal_in s p a) s (granted_in s a (judge p))
