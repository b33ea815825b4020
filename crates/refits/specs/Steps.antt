-- What the steps of a refit give. Assumes nothing.
use Rattle.std.specs.Prelude.{◌≡◌, ℕ, ◌+◌, List, [], ◌∷◌, ◌++◌, length, map, take, drop, Ok, Err, vec_items, string_bytes, Result}
use Rattle.std.specs.Result.{result_map_both}
use Rattle.trees.specs.declared.fault.Fault.{Fault}
use Rattle.trees.specs.Entries.{Row}
use Rattle.marks.specs.Marks.{MarkRow}
use Rattle.layer_fields.specs.declared.fault.LayerFault.{LayerFault}
use Rattle.layer_files.specs.Files.{encoded}
use Rattle.layer_files.specs.Reads.{decoded}
use Rattle.archive.specs.Calls.{Response, response_of}
use Rattle.archive.specs.Runs.{answers, opened}
use Rattle.archive.specs.Groups.{squash_of}
use Rattle.archive.specs.Filings.{Left}
use Rattle.scripts.specs.Scripts.{Requests}
use Rattle.reports.specs.declared.refusal.Reason.TheVariants.{Tree}
use Rattle.reports.specs.Refusals.{refusal}
use Rattle.replies.specs.Replies.{reply_text, pile_line, filed_line, squashed_line}
use Rattle.refits.specs.declared.report.Refit.{Refit}
use Rattle.refits.specs.declared.stop.Stop.{Stop}
use Rattle.refits.specs.declared.stop.Stop.TheVariants.{Refused, Memory}
use Rattle.refits.specs.declared.making.LayerFile.{LayerFile}
use Rattle.refits.specs.declared.making.Made.{Made}
use Rattle.refits.specs.Judging.{Given}
use Rattle.refits.specs.Tellings.{whole_name}
use Rattle.refits.specs.Refits.{later_calls, Tells}

-- it says that line; want of memory tells nothing of it
abbrev pub Says : List ℕ → Stop → Type 0
Says line (Refused said) = string_bytes said ≡ line
Says line (Memory e) = Unit {0}

-- it says the line of that refusal; want of memory tells nothing
abbrev pub Stops : {B : Type 0} → Stop → Result B (List ℕ) → Type 0
Stops (Refused line) o = o ≡ Err (string_bytes line)
Stops (Memory e) o = Unit {0}

-- what is read means just what is said, and its refusal is the line that is said
abbrev pub Reads : {A B : Type 0} → (A → B) → Result A Stop → Result B (List ℕ) → Type 0
Reads meaning (Ok a) o = o ≡ Ok (meaning a)
Reads meaning (Err stop) o = Stops stop o

-- ---- the files

-- how many rows a layer has, and the bytes of its file
abbrev pub file_of : List MarkRow → ℕ × List ℕ
file_of m = (length m, encoded m)

abbrev pub held : LayerFile → ℕ × List ℕ
held f = (f.rows, vec_items f.bytes)

-- the file that is the front of a buffer, if it is one
abbrev pub file_in : List ℕ → ℕ → Result (ℕ × List ℕ) LayerFault
file_in buffer n = result_map_both (λ m. (length m, take n buffer)) (λ f. f) (decoded (take n buffer))

-- the same where there is a length
abbrev pub Cut : Result ℕ Fault → List ℕ → Result LayerFile Fault → Type 0
Cut (Ok n) buffer (Ok file) = file_in buffer n ≡ Ok (held file)
Cut (Ok n) buffer (Err f) = ⊥
Cut (Err f) buffer (Ok file) = ⊥
Cut (Err f) buffer (Err g) = f ≡ g

abbrev pub held_whole : Result LayerFile Fault → Result (ℕ × List ℕ) Fault
held_whole r = result_map_both held (λ f. f) r

-- ---- what is made

-- calls over those entries, made on a session just opened, its layer filed and squashed with the one below
pub record IsMade (e : List Row) (s : Requests) (lower : List MarkRow) (made : Made) : Type 0 where
  pub rows : made.rows ≡ length lower
  pub replies : map response_of made.replies.items ≡ answers (opened e) (s.first ++ later_calls s)
  pub filed : List MarkRow
  pub left : Left e s.first filed
  pub file : held made.filed ≡ file_of filed
  pub upper : List MarkRow
  pub left_at_end : Left e (s.first ++ later_calls s) upper
  pub whole : held_whole made.whole ≡ result_map_both file_of (λ f. f) (squash_of upper lower)

-- where the layers below have a squash
abbrev pub Gives : List Row → Requests → Result Made Stop → Result (List MarkRow) (List ℕ) → Type 0
Gives e s (Ok made) (Ok lower) = IsMade e s lower made
Gives e s (Ok made) (Err line) = ⊥
Gives e s (Err stop) r = Stops stop r

-- ---- what is told

-- the texts of replies to calls of those names, as far as both go
unfoldable pub texts : List (List ℕ) → List Response → List ℕ
texts [] rs = []
texts (n ∷ ns) [] = []
texts (n ∷ ns) (r ∷ rs) = reply_text n r ++ texts ns rs

abbrev pub whole_text : ℕ → Result (ℕ × List ℕ) Fault → List ℕ
whole_text n (Ok f) = squashed_line n f.0 (length f.1)
whole_text n (Err f) = refusal whole_name (Tree f)

-- of what is made over so many layers, by calls of those names
abbrev pub told : ℕ → List (List ℕ) → List (List ℕ) → Made → List ℕ
told n first later made =
    let replies = map response_of made.replies.items in
    pile_line n made.rows
    ++ (texts first (take (length first) replies)
    ++ (filed_line made.filed.rows (length (vec_items made.filed.bytes))
    ++ (texts later (drop (length first) replies)
    ++ whole_text (n + 1) (held_whole made.whole))))

-- ---- how it ends

-- with what is told, or for want of memory
abbrev pub Ends : Result Given (List ℕ) → Result Refit Stop → Type 0
Ends g (Ok r) = Tells g (Ok r)
Ends g (Err (Refused line)) = Tells g (Err line)
Ends g (Err (Memory e)) = Unit {0}
