-- The first word of a line. Assumes nothing.
use Rattle.std.specs.Prelude.{ℕ, cond, List, [], ◌∷◌, Some, None, Option}
use Rattle.paths.specs.Names.{same}
use Rattle.scripts.specs.declared.verb.Verb.{Verb}
use Rattle.scripts.specs.declared.verb.Verb.TheVariants as verb

-- `look`, `next`, `list`, `room`, `need`, `put`, `mkdir`, `chmod`, `remove` and `file`
abbrev pub look_word : List ℕ
look_word = 108 ∷ 111 ∷ 111 ∷ 107 ∷ []

abbrev pub next_word : List ℕ
next_word = 110 ∷ 101 ∷ 120 ∷ 116 ∷ []

abbrev pub list_word : List ℕ
list_word = 108 ∷ 105 ∷ 115 ∷ 116 ∷ []

abbrev pub room_word : List ℕ
room_word = 114 ∷ 111 ∷ 111 ∷ 109 ∷ []

abbrev pub need_word : List ℕ
need_word = 110 ∷ 101 ∷ 101 ∷ 100 ∷ []

abbrev pub put_word : List ℕ
put_word = 112 ∷ 117 ∷ 116 ∷ []

abbrev pub mkdir_word : List ℕ
mkdir_word = 109 ∷ 107 ∷ 100 ∷ 105 ∷ 114 ∷ []

abbrev pub chmod_word : List ℕ
chmod_word = 99 ∷ 104 ∷ 109 ∷ 111 ∷ 100 ∷ []

abbrev pub remove_word : List ℕ
remove_word = 114 ∷ 101 ∷ 109 ∷ 111 ∷ 118 ∷ 101 ∷ []

abbrev pub file_word : List ℕ
file_word = 102 ∷ 105 ∷ 108 ∷ 101 ∷ []

-- what a line asks for, by its first word
abbrev pub verb_of : List ℕ → Option Verb
verb_of w =
    cond (same look_word w) (Some verb.Look) (
    cond (same next_word w) (Some verb.Next) (
    cond (same list_word w) (Some verb.List) (
    cond (same room_word w) (Some verb.Room) (
    cond (same need_word w) (Some verb.Need) (
    cond (same put_word w) (Some verb.Put) (
    cond (same mkdir_word w) (Some verb.Mkdir) (
    cond (same chmod_word w) (Some verb.Chmod) (
    cond (same remove_word w) (Some verb.Remove) (
    cond (same file_word w) (Some verb.File) (
    None))))))))))
