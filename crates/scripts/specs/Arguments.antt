-- The words of a line, read one by one. Assumes nothing.
use Rattle.std.specs.Prelude.{ℕ, List, [], ◌∷◌, Some, None, Option}
use Rattle.std.specs.Option.{option_map}
use Rattle.paths.specs.Steps.{and_then_some}
use Rattle.trees.specs.declared.entry.Entry.{Entry}
use Rattle.trees.specs.declared.entry.Entry.TheVariants.{File}
use Rattle.mtree.specs.Lexed.{tail, unread}
use Rattle.mtree.specs.Numbers.{content_of}
use Rattle.scripts.specs.Values.{path_word, name_word, mode_word, size_word}
use Rattle.scripts.specs.declared.arguments.Arguments.{Arguments}

-- the words that are not read yet
abbrev pub left : Arguments → List (List ℕ)
left a = unread a.words

abbrev pub first : List (List ℕ) → Option (List ℕ)
first [] = None
first (w ∷ ws) = Some w

-- what a rule makes of the next word, if there is one
abbrev pub next_by : {A : Type 0} → (List ℕ → Option A) → List (List ℕ) → Option A
next_by rule ws = and_then_some (first ws) rule

-- the next word by a rule, and then the words behind it
abbrev pub word : {A B : Type 0} → (List ℕ → Option A) → (A → List (List ℕ) → Option B) → List (List ℕ) → Option B
word rule go ws = and_then_some (next_by rule ws) (λ a. go a (tail ws))

-- no word is left
abbrev pub ended : {A : Type 0} → A → List (List ℕ) → Option A
ended a [] = Some a
ended a (w ∷ ws) = None

-- ---- what may stand behind the first word of a line

-- PATH
abbrev pub path_alone : List (List ℕ) → Option (List ℕ)
path_alone = word path_word ended

-- AFTER, or nothing, which stands for the empty name
abbrev pub name_or_none : List (List ℕ) → Option (List ℕ)
name_or_none [] = Some []
name_or_none (w ∷ ws) = word name_word ended (w ∷ ws)

-- PATH, or PATH AFTER
abbrev pub path_and_name : List (List ℕ) → Option (List ℕ × List ℕ)
path_and_name = word path_word (λ p ws. option_map (λ n. (p, n)) (name_or_none ws))

-- PATH MODE
abbrev pub path_and_mode : List (List ℕ) → Option (List ℕ × ℕ)
path_and_mode = word path_word (λ p. word mode_word (λ m. ended (p, m)))

-- PATH MODE SIZE CONTENT
abbrev pub path_and_file : List (List ℕ) → Option (List ℕ × Entry)
path_and_file =
    word path_word (λ p. word mode_word (λ m. word size_word (λ s. word content_of (λ c. ended (p, File (record { mode = m; size = s; content = c }))))))
