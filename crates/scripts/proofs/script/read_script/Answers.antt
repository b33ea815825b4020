use Rattle.std.proofs.Common.{◌+◌, ◌∙◌}
use Rattle.mtree.specs.Lexed.{unread}
use Rattle.scripts.specs.Scripts.{requests_of}
use Rattle.scripts.proofs.Turns.{script_stop}
use Rattle.scripts.proofs.script.read_script.Goals as goal

pub returns-in-Err-Unreadable : goal.returns-in-Err-Unreadable
returns-in-Err-Unreadable c =
    let l = c.loop-line in
    let stops = script_stop (l.number + 1) (requests_of l.script) (unread l.line-iterator) c.in-Some.line.now (unread c.next.new.self) c.in-Some.ensures.steps in
    l.invariant.same ∙ stops (rw c.in-Err-Unreadable.field-0-is at c.in-Err-Unreadable.ensures)
