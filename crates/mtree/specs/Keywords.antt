-- The keywords of a line. Assumes nothing.
use Rattle.std.specs.Prelude.{ℕ, ◌+◌, cond, ◌&&◌, List, [], ◌∷◌, length, drop, Some, None, Ok, Err, Option, Result, nat_lt}
use Rattle.paths.specs.Names.{same}
use Rattle.paths.specs.Pieces.{front}
use Rattle.trees.specs.declared.entry.Entry.{Entry}
use Rattle.trees.specs.declared.entry.Entry.TheVariants.{File, Dir}
use Rattle.words.specs.declared.fault.Cause.{Cause}
use Rattle.words.specs.declared.fault.Cause.TheVariants.{Keyword, Value}
use Rattle.paths.specs.Steps.{and_then}
use Rattle.mtree.specs.Lexed.{tail}
use Rattle.mtree.specs.Numbers.{mode_of, size_of, content_of}

-- `type`, `mode`, `size`, `content`, `dir` and `file`
abbrev pub type_name : List ℕ
type_name = 116 ∷ 121 ∷ 112 ∷ 101 ∷ []

abbrev pub mode_name : List ℕ
mode_name = 109 ∷ 111 ∷ 100 ∷ 101 ∷ []

abbrev pub size_name : List ℕ
size_name = 115 ∷ 105 ∷ 122 ∷ 101 ∷ []

abbrev pub content_name : List ℕ
content_name = 99 ∷ 111 ∷ 110 ∷ 116 ∷ 101 ∷ 110 ∷ 116 ∷ []

abbrev pub dir_word : List ℕ
dir_word = 100 ∷ 105 ∷ 114 ∷ []

abbrev pub file_word : List ℕ
file_word = 102 ∷ 105 ∷ 108 ∷ 101 ∷ []

-- the value of the next field, which has to be the keyword of that name
abbrev pub expected : List ℕ → List (List ℕ) → Result (List ℕ) Cause
expected name [] = Err Keyword
expected name (k ∷ ks) = cond (nat_lt (length (front 61 k)) (length k) && same name (front 61 k)) (Ok (drop (length (front 61 k) + 1) k)) (Err Keyword)

abbrev pub valued : Option ℕ → Result ℕ Cause
valued (Some n) = Ok n
valued None = Err Value

-- the keyword of that name, read by its rule
abbrev pub number : (List ℕ → Option ℕ) → List ℕ → List (List ℕ) → Result ℕ Cause
number rule name ks = and_then (expected name ks) (λ v. valued (rule v))

-- no field is left
abbrev pub no_more : List (List ℕ) → Entry → Result Entry Cause
no_more [] e = Ok e
no_more (k ∷ ks) e = Err Keyword

abbrev pub dir_of : List (List ℕ) → Result Entry Cause
dir_of ks = and_then (number mode_of mode_name ks) (λ m. no_more (tail ks) (Dir (record { mode = m })))

abbrev pub file_of : List (List ℕ) → Result Entry Cause
file_of ks =
    and_then (number mode_of mode_name ks) (λ m.
    and_then (number size_of size_name (tail ks)) (λ s.
    and_then (number content_of content_name (tail (tail ks))) (λ c.
    no_more (tail (tail (tail ks))) (File (record { mode = m; size = s; content = c })))))

abbrev pub typed : List ℕ → List (List ℕ) → Result Entry Cause
typed v ks = cond (same dir_word v) (dir_of ks) (cond (same file_word v) (file_of ks) (Err Value))

-- the entry that the fields behind the path word give, judged from the left
abbrev pub entry_of : List (List ℕ) → Result Entry Cause
entry_of ks = and_then (expected type_name ks) (λ v. typed v (tail ks))
