use Rattle.std.proofs.Common.{◌≡◌, ◌+◌, ◌≤◌, length}
use Rattle.mtree.specs.Lexed.{unread}
use Rattle.scripts.specs.Scripts.{script_from, script_of, requests_of}
use Rattle.scripts.proofs.script.read_script.Given as goal

abbrev pub invariant-loop-line : goal.invariant-loop-line
invariant-loop-line l = record {
  within : l.number + length (unread l.line-iterator) ≤ length l.text + 1;
  same : script_of l.text ≡ script_from (l.number + 1) (requests_of l.script) (unread l.line-iterator);
}
