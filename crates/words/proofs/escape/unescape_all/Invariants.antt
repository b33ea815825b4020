use Rattle.std.proofs.Common.{◌≡◌, ◌≤◌, length, take, drop}
use Rattle.std.specs.Option.{option_map}
use Rattle.words.specs.Escapes.{Sound, unescaped}
use Rattle.words.proofs.Machine.{after}
use Rattle.words.proofs.escape.unescape_all.Given as goal

abbrev pub invariant-loop-byte : goal.invariant-loop-byte
invariant-loop-byte l = record {
  sound : Sound l.state;
  fits : length l.plain.items ≤ l.byte-index;
  same : option_map (take (length l.word)) (unescaped l.word) ≡ after (length l.word) l.plain.items l.state (drop l.byte-index l.word);
}
