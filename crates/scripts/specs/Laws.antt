-- The laws of scripts, as statements. Assumes nothing.
use Rattle.std.specs.Prelude.{◌≡◌, ℕ, ◌-◌, ◌^◌, ◌<◌, ◌≤◌, List, ◌++◌, length, take, Some, None, Ok, Err, Option}
use Rattle.std.specs.List.{AllByRecursion}
use Rattle.trees.specs.declared.entry.Entry.{Entry}
use Rattle.trees.specs.declared.entry.Entry.TheVariants.{File, Dir}
use Rattle.edits.specs.declared.action.Action.{Action}
use Rattle.edits.specs.declared.action.Action.TheVariants.{Put, Mkdir, Chmod, Remove}
use Rattle.archive.specs.Calls.{Request, look, next, list, room, need, edit}
use Rattle.scripts.specs.Values.{zeros}
use Rattle.scripts.specs.Scripts.{Requests, lines_of, script_of}
use Rattle.scripts.specs.Written.{text_of_lines, script_text}

-- ---- what a script can ask for

abbrev pub Bytes : List ℕ → Type 0
Bytes s = AllByRecursion (λ b. b < 256) s

-- a file; the mode has 16 bits, the size and the content have 64
abbrev pub AskableFile : Entry → Type 0
AskableFile (File f) = (f.mode < 2 ^ 16) × (f.size < 2 ^ 64) × (f.content < 2 ^ 64)
AskableFile (Dir d) = ⊥

abbrev pub AskableAction : Action → Type 0
AskableAction (Put e) = AskableFile e
AskableAction (Mkdir m) = m < 2 ^ 16
AskableAction (Chmod m) = m < 2 ^ 16
AskableAction Remove = Unit {0}

-- paths and names are any bytes; `next` has a buffer of 40 bytes, `list` one of 65,536, all of them 0
abbrev pub Askable : Request → Type 0
Askable (look p) = Bytes p
Askable (next p after buffer) = Bytes p × Bytes after × (buffer ≡ zeros 40)
Askable (list buffer) = buffer ≡ zeros 65536
Askable room = Unit {0}
Askable (need p) = Bytes p
Askable (edit p a) = Bytes p × AskableAction a

abbrev pub AskableLater : Option (List Request) → Type 0
AskableLater None = Unit {0}
AskableLater (Some rs) = AllByRecursion Askable rs

abbrev pub AskableScript : Requests → Type 0
AskableScript s = AllByRecursion Askable s.first × AskableLater s.later

-- ---- the laws

-- the n-th line of a text is the first that cannot be read
pub record FirstUnreadable (text : List ℕ) (n : ℕ) : Type 0 where
  -- there is such a line
  pub there : (1 ≤ n) × (n ≤ length (lines_of text))
  -- the lines before it are a script of their own
  pub before : (s : Requests) × (script_of (text_of_lines (take (n - 1) (lines_of text))) ≡ Ok s)
  -- with it they are none, whatever stands behind it
  pub refused : (behind : List ℕ) → script_of (text_of_lines (take n (lines_of text)) ++ behind) ≡ Err n

pub record Lawful : Type 0 where
  -- the script that is written for any calls reads as just those calls
  pub reads_back : (s : Requests) → AskableScript s → script_of (script_text s) ≡ Ok s
  -- what any text reads as are such calls: the first law leaves none out
  pub askable : (text : List ℕ) (s : Requests) → script_of text ≡ Ok s → AskableScript s
  -- the number with which a script is refused is that of its first line that cannot be read
  pub unreadable : (text : List ℕ) (n : ℕ) → script_of text ≡ Err n → FirstUnreadable text n
  -- a text has the lines that it is written with
  pub lines_back : (ls : List (List ℕ)) → AllByRecursion (λ l. AllByRecursion (λ b. b ≡ 10 → ⊥) l) ls → lines_of (text_of_lines ls) ≡ ls
