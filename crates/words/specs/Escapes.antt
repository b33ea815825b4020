-- Escapes: a machine that takes a word byte by byte. Assumes nothing.
use Rattle.std.specs.Prelude.{ℕ, ◌+◌, ◌-◌, ◌*◌, ◌<◌, Bool, cond, ◌&&◌, List, [], ◌∷◌, Some, None, Option, ◌==◌, nat_le}
use Rattle.std.specs.Option.{option_map}
use Rattle.words.specs.Printable.{printable}
use Rattle.words.specs.declared.escape.State.{State}
use Rattle.words.specs.declared.escape.State.TheVariants.{Plain, Backslash, OneDigit, TwoDigits}
use Rattle.words.specs.declared.escape.Step.{Step}
use Rattle.words.specs.declared.escape.Step.TheVariants.{To, Out}

-- the digits read so far leave room for the next
abbrev pub Sound : State → Type 0
Sound Plain = Unit {0}
Sound Backslash = Unit {0}
Sound (OneDigit n) = n < 4
Sound (TwoDigits n) = n < 32

abbrev pub SoundStep : Step → Type 0
SoundStep (To s) = Sound s
SoundStep (Out b) = Unit {0}

abbrev pub octal : ℕ → Bool
octal b = nat_le 48 b && nat_le b 55

-- what a byte does, where it may come: outside an escape it stands for itself or begins one; three
-- digits, the first at most 3, make a byte
abbrev pub step_of : State → ℕ → Option Step
step_of Plain b = cond (b == 92) (Some (To Backslash)) (cond (printable b) (Some (Out b)) None)
step_of Backslash b = cond (nat_le 48 b && nat_le b 51) (Some (To (OneDigit (b - 48)))) None
step_of (OneDigit n) b = cond (octal b) (Some (To (TwoDigits (n * 8 + (b - 48))))) None
step_of (TwoDigits n) b = cond (octal b) (Some (Out (n * 8 + (b - 48)))) None

-- a word may end only outside an escape
abbrev pub finished : State → Option (List ℕ)
finished Plain = Some []
finished Backslash = None
finished (OneDigit n) = None
finished (TwoDigits n) = None

abbrev pub onward : Option Step → (State → Option (List ℕ)) → Option (List ℕ)
onward None go = None
onward (Some (To s)) go = go s
onward (Some (Out b)) go = option_map (λ bs. b ∷ bs) (go Plain)

-- the bytes that the rest of a word stands for
unfoldable pub undone : State → List ℕ → Option (List ℕ)
undone s [] = finished s
undone s (b ∷ bs) = onward (step_of s b) (λ t. undone t bs)

-- the bytes that a word stands for
abbrev pub unescaped : List ℕ → Option (List ℕ)
unescaped w = undone Plain w
