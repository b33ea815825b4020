-- Filing a layer: it is written, and what was written is laid on another tree. Assumes nothing.
use Rattle.std.specs.Prelude.{◌≡◌, ℕ, ◌≤◌, true, List, ◌++◌, length, take, Ok, Err, Result, MatchResult}
use Rattle.std.specs.Result.{result_map_both}
use Rattle.trees.specs.declared.fault.Fault.{Fault}
use Rattle.trees.specs.Buffers.{fitted, put_front}
use Rattle.trees.specs.Entries.{Entries, Row}
use Rattle.marks.specs.Marks.{MarkRow, layered}
use Rattle.marks.specs.Plain.{Plain, plain_of}
use Rattle.layer_files.specs.Files.{encoded}
use Rattle.layer_files.specs.Reads.{decoded}
use Rattle.sessions.specs.declared.session.Session.{Session}
use Rattle.archive.specs.Calls.{Request, Response}
use Rattle.archive.specs.Answers.{plain_in}
use Rattle.archive.specs.Runs.{answers, afterwards, opened}

-- the length that was written, and the plain map of the session that stands on the file
abbrev pub told_in : {T : Type 0} → (T → Entries) → Result (ℕ × Session T) Fault → Result (ℕ × Plain) Fault
told_in e r = result_map_both (λ f. (f.0, plain_in e f.1)) (λ f. f) r

-- over those entries a layer has the plain map that the calls leave, made on a session just opened
pub record Left (e : List Row) (calls : List Request) (m : List MarkRow) : Type 0 where
  pub is_layer : layered m ≡ true
  pub few : length m ≤ 192
  pub leaves : plain_of m e ≡ afterwards (opened e) calls

-- first calls on a session just opened over a tree with the rows e, its layer filed onto a tree with the rows o, and second calls there:
-- the replies before and afterwards, what the filing gave, and the buffer before and afterwards
pub record Filing (e o : List Row) (first second : List Request) (before replies : List Response) (filed : Result (ℕ × Plain) Fault) (old new : List ℕ) : Type 0 where
  -- the layer that was filed
  pub marks : List MarkRow
  pub left : Left e first marks
  pub buffer : new ≡ put_front (encoded marks) old
  -- what was written reads back as that layer
  pub reads_back : MatchResult filed (λ f. decoded (take f.0 new) ≡ Ok marks) (λ f. Unit {0})
  -- where it was written, the second calls were made with that layer over the other tree; where it was refused, they were not made
  pub answer :
      MatchResult filed
      (λ f. (fitted (encoded marks) (length old) ≡ Ok f.0) × (f.1 ≡ afterwards (plain_of marks o) second) × (replies ≡ before ++ (answers (opened e) first ++ answers (plain_of marks o) second)))
      (λ f. (fitted (encoded marks) (length old) ≡ Err f) × (replies ≡ before ++ answers (opened e) first))
