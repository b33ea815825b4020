-- How a script is written. Assumes nothing.
use Rattle.std.specs.Prelude.{ℕ, cond, List, [], ◌∷◌, ◌++◌, map, Some, None, decimal, Option, nat_lt}
use Rattle.trees.specs.declared.entry.Entry.{Entry}
use Rattle.trees.specs.declared.entry.Entry.TheVariants.{File, Dir}
use Rattle.edits.specs.declared.action.Action.{Action}
use Rattle.edits.specs.declared.action.Action.TheVariants.{Put, Mkdir, Chmod, Remove}
use Rattle.listing.specs.Lines.{escaped, dotted, digits}
use Rattle.archive.specs.Calls.{Request, look, next, list, room, need, edit}
use Rattle.scripts.specs.Verbs.{look_word, next_word, list_word, room_word, need_word, put_word, mkdir_word, chmod_word, remove_word, file_word}
use Rattle.scripts.specs.Scripts.{Requests}

-- ---- the words of a call

-- four octal digits, or six where four are too few
abbrev pub mode_digits : ℕ → List ℕ
mode_digits m = cond (nat_lt m 4096) (digits 8 4 m) (digits 8 6 m)

-- a name with escapes; for the empty name no word
abbrev pub after_words : List ℕ → List (List ℕ)
after_words [] = []
after_words (b ∷ bs) = escaped (b ∷ bs) ∷ []

-- the mode, the size in decimal, the content in sixteen hexadecimal digits; no line puts a directory
abbrev pub file_words : Entry → List (List ℕ)
file_words (File f) = mode_digits f.mode ∷ decimal f.size ∷ digits 16 16 f.content ∷ []
file_words (Dir d) = []

abbrev pub edit_words : List ℕ → Action → List (List ℕ)
edit_words path (Put e) = put_word ∷ path ∷ file_words e
edit_words path (Mkdir m) = mkdir_word ∷ path ∷ mode_digits m ∷ []
edit_words path (Chmod m) = chmod_word ∷ path ∷ mode_digits m ∷ []
edit_words path Remove = remove_word ∷ path ∷ []

-- the word of the call, and its arguments; a path is written as in a listing. A lent buffer is not written
abbrev pub call_words : Request → List (List ℕ)
call_words (look p) = look_word ∷ dotted p ∷ []
call_words (next p after buffer) = next_word ∷ dotted p ∷ after_words after
call_words (list buffer) = list_word ∷ []
call_words room = room_word ∷ []
call_words (need p) = need_word ∷ dotted p ∷ []
call_words (edit p a) = edit_words (dotted p) a

-- ---- the lines

-- words with one space between neighbours
abbrev pub spaced : List (List ℕ) → List ℕ
spaced [] = []
spaced (w ∷ []) = w
spaced (w ∷ v ∷ ws) = w ++ 32 ∷ spaced (v ∷ ws)

abbrev pub call_line : Request → List ℕ
call_line r = spaced (call_words r)

-- `file`, and the calls behind it
abbrev pub later_lines : Option (List Request) → List (List ℕ)
later_lines None = []
later_lines (Some rs) = file_word ∷ map call_line rs

abbrev pub script_lines : Requests → List (List ℕ)
script_lines s = map call_line s.first ++ later_lines s.later

-- ---- the text

-- lines, with a newline behind each
abbrev pub text_of_lines : List (List ℕ) → List ℕ
text_of_lines [] = []
text_of_lines (l ∷ ls) = l ++ 10 ∷ text_of_lines ls

abbrev pub script_text : Requests → List ℕ
script_text s = text_of_lines (script_lines s)
