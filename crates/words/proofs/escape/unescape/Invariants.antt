use Rattle.std.proofs.Common.{◌≡◌, ◌≤◌, length, take, drop}
use Rattle.std.specs.Option.{option_map}
use Rattle.words.specs.Escapes.{Sound, unescaped}
use Rattle.words.proofs.Machine.{after}
use Rattle.words.proofs.escape.unescape.Given as goal

abbrev pub invariant-loop-byte : goal.invariant-loop-byte
invariant-loop-byte l = record {
  sound : Sound l.state;
  fits : length l.plain.items ≤ 123;
  same : option_map (take 123) (unescaped l.word) ≡ after 123 l.plain.items l.state (drop l.byte-index l.word);
}
