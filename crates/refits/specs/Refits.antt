-- A refit of what a folder holds: what it prints, and the files that it leaves. Assumes nothing.
use Rattle.std.specs.Prelude.{◌≡◌, ℕ, ◌+◌, List, [], ◌++◌, length, Ok, Err, String, vec_items, string_bytes, Result}
use Rattle.std.specs.Option.{option_map, unwrap_or}
use Rattle.std.specs.Result.{result_ok}
use Rattle.std.specs.Global.{Global}
use Rattle.trees.specs.declared.fault.Fault.{Fault}
use Rattle.trees.specs.Entries.{Row}
use Rattle.marks.specs.Marks.{MarkRow}
use Rattle.layer_files.specs.Files.{encoded}
use Rattle.archive.specs.Calls.{Request}
use Rattle.archive.specs.Runs.{afterwards, opened}
use Rattle.archive.specs.Groups.{squash_of, laid_all}
use Rattle.archive.specs.Filings.{Left}
use Rattle.scripts.specs.Scripts.{Requests}
use Rattle.replies.specs.Replies.{pile_line}
use Rattle.refits.specs.declared.report.Refit.{Refit}
use Rattle.refits.specs.Judging.{Given, judged}
use Rattle.refits.specs.Tellings.{replies_text, filed_text, squashed_text}

-- the calls behind the filing; none, where the script has no line `file`
abbrev pub later_calls : Requests → List Request
later_calls s = unwrap_or s.later []

-- the entries under the session: all layers laid on the base one by one
abbrev pub rows_under : Given → List Row
rows_under g = laid_all g.layers g.rows

-- what is printed: the layer `filed` is the one that the first calls left, and `whole` the squash of all layers
abbrev pub printed : Given → List MarkRow → Result (List MarkRow) Fault → List ℕ
printed g filed whole =
    let now = opened (rows_under g) in
    pile_line (length g.layers) (length g.squash)
    ++ (replies_text now g.script.first
    ++ (filed_text filed
    ++ (replies_text (afterwards now g.script.first) (later_calls g.script)
    ++ squashed_text (length g.layers + 1) whole)))

-- what a refit of what is given prints and leaves
pub record Makes (g : Given) (r : Refit) : Type 0 where
  -- the layer that the first calls left: it is filed
  pub filed : List MarkRow
  pub left : Left (rows_under g) g.script.first filed
  -- the layer that all calls left: it is squashed with the others
  pub upper : List MarkRow
  pub left_at_end : Left (rows_under g) (g.script.first ++ later_calls g.script) upper
  pub text : vec_items r.text ≡ printed g filed (squash_of upper g.squash)
  pub layer : vec_items r.layer ≡ encoded filed
  -- without a squash there is no such file
  pub whole : option_map vec_items r.whole ≡ option_map encoded (result_ok (squash_of upper g.squash))

-- a refit of what is given, or the line of a refusal
abbrev pub Tells : Result Given (List ℕ) → Result Refit (String Global) → Type 0
Tells (Ok g) (Ok r) = Makes g r
Tells (Ok g) (Err said) = ⊥
Tells (Err line) (Ok r) = ⊥
Tells (Err line) (Err said) = string_bytes said ≡ line

-- of the text of a manifest, the layer files over it, the lowest first, and a script
abbrev pub Refits : List ℕ → List (List ℕ) → List ℕ → Result Refit (String Global) → Type 0
Refits base files script r = Tells (judged base files script) r
