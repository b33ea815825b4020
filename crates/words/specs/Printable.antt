-- Which bytes of a path stand for themselves in a text. Assumes nothing.
use Rattle.std.specs.Prelude.{ℕ, Bool, not, ◌&&◌, ◌==◌, nat_le}

-- the bytes that stand for themselves: 33 to 126, but `\` and `#`
abbrev pub printable : ℕ → Bool
printable b = nat_le 33 b && (nat_le b 126 && (not (b == 92) && not (b == 35)))
