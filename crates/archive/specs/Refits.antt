-- A refit: calls on layers laid over a base, the new layer filed between them and squashed with the others. Assumes nothing.
use Rattle.std.specs.Prelude.{◌≡◌, ℕ, true, List, [], ◌∷◌, ◌++◌, length, take, Ok, Result, MatchResult}
use Rattle.paths.specs.Steps.{and_then}
use Rattle.trees.specs.declared.fault.Fault.{Fault}
use Rattle.trees.specs.Buffers.{fitted, put_front}
use Rattle.trees.specs.Entries.{Row, is_tree}
use Rattle.marks.specs.Marks.{MarkRow, merged}
use Rattle.marks.specs.Plain.{plain_of}
use Rattle.marks.specs.Squash.{squashed}
use Rattle.layer_files.specs.Files.{encoded}
use Rattle.layer_files.specs.Reads.{decoded}
use Rattle.archive.specs.Calls.{Request, Response}
use Rattle.archive.specs.Runs.{answers, afterwards, opened}
use Rattle.archive.specs.Groups.{squash_of, grouped, laid_all}
use Rattle.archive.specs.Filings.{Left}

-- the layer that the first calls left is filed: the answer and the buffer. Where it was written, the second calls went on over the same
-- entries as if nothing had been filed; where it was refused, they were not made
pub record Filed (e : List Row) (first second : List Request) (before replies : List Response) (filed : Result ℕ Fault) (old new : List ℕ) : Type 0 where
  pub marks : List MarkRow
  pub left : Left e first marks
  pub answer : filed ≡ fitted (encoded marks) (length old)
  pub buffer : new ≡ put_front (encoded marks) old
  pub reads_back : MatchResult filed (λ n. decoded (take n new) ≡ Ok marks) (λ f. Unit {0})
  -- on any tree with those entries it answers whatever calls as the session would that had stayed open
  pub anywhere : (calls : List Request) → answers (plain_of marks e) calls ≡ answers (afterwards (opened e) first) calls
  pub goes_on : MatchResult filed (λ n. replies ≡ before ++ answers (opened e) (first ++ second)) (λ f. replies ≡ before ++ answers (opened e) first)

-- layers squashed in an order, and over them the layer that calls on all of them left: the file of the squash
pub record Regrouped (e : List Row) (ms : List (List MarkRow)) (order : List ℕ) (calls : List Request) (whole : Result ℕ Fault) (old new : List ℕ) : Type 0 where
  pub lower : List MarkRow
  pub in_order : grouped order ms ≡ Ok lower
  pub upper : List MarkRow
  pub left : Left (laid_all ms e) calls upper
  pub answer : whole ≡ and_then (squash_of upper lower) (λ m. fitted (encoded m) (length old))
  pub buffer : MatchResult whole (λ n. new ≡ put_front (encoded (squashed upper lower)) old) (λ f. new ≡ old)
  -- whatever order all layers are squashed in, none refused, it is the same layer and so the same file
  pub any_order : (ks : List ℕ) (m : List MarkRow) → grouped ks (ms ++ upper ∷ []) ≡ Ok m → m ≡ squashed upper lower
  -- and laid on any tree it has the entries of all layers laid one by one
  pub laid : (any : List Row) → is_tree any ≡ true → merged (squashed upper lower) any ≡ laid_all (ms ++ upper ∷ []) any
