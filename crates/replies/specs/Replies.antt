-- What a refit prints: a text for each reply, and its other lines. Assumes nothing.
use Rattle.std.specs.Prelude.{ℕ, List, [], ◌∷◌, ◌++◌, take, decimal, Ok, Err, Some, None}
use Rattle.listing.specs.Lines.{digits, escaped}
use Rattle.trees.specs.declared.entry.Entry.{Entry}
use Rattle.trees.specs.declared.entry.Entry.TheVariants.{File, Dir}
use Rattle.edits.specs.declared.action.Action.{Action}
use Rattle.edits.specs.declared.action.Action.TheVariants.{Put, Mkdir, Chmod, Remove}
use Rattle.archive.specs.Calls.{Request, look, next, list, room, need, edit, Response, looked, named, listed, left, needed, edited}
use Rattle.reports.specs.declared.refusal.Reason.TheVariants.{Tree}
use Rattle.reports.specs.Refusals.{refusal}
use Rattle.scripts.specs.Verbs.{look_word, next_word, list_word, room_word, need_word, put_word, mkdir_word, chmod_word, remove_word}

-- ---- the name of a call: the word that asks for it in a script

abbrev pub edit_name : Action → List ℕ
edit_name (Put e) = put_word
edit_name (Mkdir m) = mkdir_word
edit_name (Chmod m) = chmod_word
edit_name Remove = remove_word

abbrev pub call_name : Request → List ℕ
call_name (look p) = look_word
call_name (next p a b) = next_word
call_name (list b) = list_word
call_name room = room_word
call_name (need p) = need_word
call_name (edit p a) = edit_name a

-- ---- the text of a reply

-- `dir MODE` or `file MODE SIZE CONTENT`: four octal digits, decimal, sixteen hexadecimal digits
abbrev pub entry_text : Entry → List ℕ
entry_text (Dir d) = 100 ∷ 105 ∷ 114 ∷ 32 ∷ (digits 8 4 d.mode ++ 10 ∷ [])
entry_text (File f) =
    102 ∷ 105 ∷ 108 ∷ 101 ∷ 32 ∷ (digits 8 4 f.mode ++ 32 ∷ (decimal f.size ++ 32 ∷ (digits 16 16 f.content ++ 10 ∷ [])))

-- `none`
abbrev pub none_text : List ℕ
none_text = 110 ∷ 111 ∷ 110 ∷ 101 ∷ 10 ∷ []

-- `name WORD`: the name, with escapes
abbrev pub name_text : List ℕ → List ℕ
name_text name = 110 ∷ 97 ∷ 109 ∷ 101 ∷ 32 ∷ (escaped name ++ 10 ∷ [])

-- `listed N`, and then the listing
abbrev pub listed_text : ℕ → List ℕ → List ℕ
listed_text n listing = 108 ∷ 105 ∷ 115 ∷ 116 ∷ 101 ∷ 100 ∷ 32 ∷ (decimal n ++ 10 ∷ listing)

-- `room N`
abbrev pub room_text : ℕ → List ℕ
room_text n = 114 ∷ 111 ∷ 111 ∷ 109 ∷ 32 ∷ (decimal n ++ 10 ∷ [])

-- `need N`
abbrev pub need_text : ℕ → List ℕ
need_text n = 110 ∷ 101 ∷ 101 ∷ 100 ∷ 32 ∷ (decimal n ++ 10 ∷ [])

-- `done`
abbrev pub done_text : List ℕ
done_text = 100 ∷ 111 ∷ 110 ∷ 101 ∷ 10 ∷ []

-- of the reply to a call of that name: what was answered, or the line of the refusal
abbrev pub reply_text : List ℕ → Response → List ℕ
reply_text call (looked (Ok e)) = entry_text e
reply_text call (looked (Err f)) = refusal call (Tree f)
reply_text call (named (Ok None) buffer) = none_text
reply_text call (named (Ok (Some n)) buffer) = name_text (take n buffer)
reply_text call (named (Err f) buffer) = refusal call (Tree f)
reply_text call (listed (Ok n) buffer) = listed_text n (take n buffer)
reply_text call (listed (Err f) buffer) = refusal call (Tree f)
reply_text call (left n) = room_text n
reply_text call (needed (Ok n)) = need_text n
reply_text call (needed (Err f)) = refusal call (Tree f)
reply_text call (edited (Ok u)) = done_text
reply_text call (edited (Err f)) = refusal call (Tree f)

-- ---- the other lines

-- ` layers `
abbrev layers_word : List ℕ
layers_word = 32 ∷ 108 ∷ 97 ∷ 121 ∷ 101 ∷ 114 ∷ 115 ∷ 32 ∷ []

-- ` rows`
abbrev rows_word : List ℕ
rows_word = 32 ∷ 114 ∷ 111 ∷ 119 ∷ 115 ∷ []

-- ` bytes` and a newline
abbrev bytes_end : List ℕ
bytes_end = 32 ∷ 98 ∷ 121 ∷ 116 ∷ 101 ∷ 115 ∷ 10 ∷ []

-- `pile N layers R rows`
abbrev pub pile_line : ℕ → ℕ → List ℕ
pile_line n r = 112 ∷ 105 ∷ 108 ∷ 101 ∷ 32 ∷ (decimal n ++ (layers_word ++ (decimal r ++ (rows_word ++ 10 ∷ []))))

-- `filed R rows B bytes`
abbrev pub filed_line : ℕ → ℕ → List ℕ
filed_line r b = 102 ∷ 105 ∷ 108 ∷ 101 ∷ 100 ∷ 32 ∷ (decimal r ++ (rows_word ++ 32 ∷ (decimal b ++ bytes_end)))

-- `squashed N layers R rows B bytes`
abbrev pub squashed_line : ℕ → ℕ → ℕ → List ℕ
squashed_line n r b = 115 ∷ 113 ∷ 117 ∷ 97 ∷ 115 ∷ 104 ∷ 101 ∷ 100 ∷ 32 ∷ (decimal n ++ (layers_word ++ (decimal r ++ (rows_word ++ 32 ∷ (decimal b ++ bytes_end)))))

-- `unreadable line N`
abbrev pub unreadable_line : ℕ → List ℕ
unreadable_line n = 117 ∷ 110 ∷ 114 ∷ 101 ∷ 97 ∷ 100 ∷ 97 ∷ 98 ∷ 108 ∷ 101 ∷ 32 ∷ 108 ∷ 105 ∷ 110 ∷ 101 ∷ 32 ∷ (decimal n ++ 10 ∷ [])
