-- What a refit prints, line by line. Assumes nothing.
use Rattle.std.specs.Prelude.{ℕ, List, [], ◌∷◌, ◌++◌, length, Ok, Err, Result}
use Rattle.trees.specs.declared.fault.Fault.{Fault}
use Rattle.marks.specs.Marks.{MarkRow}
use Rattle.marks.specs.Plain.{Plain}
use Rattle.layer_files.specs.Files.{encoded}
use Rattle.archive.specs.Calls.{Request}
use Rattle.archive.specs.Answers.{answer, after}
use Rattle.reports.specs.declared.refusal.Reason.TheVariants.{Tree}
use Rattle.reports.specs.Refusals.{refusal}
use Rattle.replies.specs.Replies.{reply_text, call_name, filed_line, squashed_line}

-- calls made one after the other on a plain map: the texts of their replies
unfoldable pub replies_text : Plain → List Request → List ℕ
replies_text s [] = []
replies_text s (c ∷ cs) = reply_text (call_name c) (answer s c) ++ replies_text (after s c) cs

-- of the layer that is filed: its rows, and the bytes of its file
abbrev pub filed_text : List MarkRow → List ℕ
filed_text m = filed_line (length m) (length (encoded m))

-- `whole.lay`
abbrev pub whole_name : List ℕ
whole_name = 119 ∷ 104 ∷ 111 ∷ 108 ∷ 101 ∷ 46 ∷ 108 ∷ 97 ∷ 121 ∷ []

-- of the squash of so many layers: its rows, and the bytes of its file; or its refusal
abbrev pub squashed_text : ℕ → Result (List MarkRow) Fault → List ℕ
squashed_text n (Ok m) = squashed_line n (length m) (length (encoded m))
squashed_text n (Err f) = refusal whole_name (Tree f)
