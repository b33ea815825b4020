-- A layer without rows over a tree. Assumes nothing.
use Rattle.std.proofs.Common.{◌≡◌, true, List, [], ap, ◌∙◌}
use Rattle.rows.specs.Maps.{at, ascending}
use Rattle.rows.proofs.Built.{same_rows}
use Rattle.trees.specs.Entries.{Entries, Row, is_tree}
use Rattle.trees.proofs.Closed.{tree_parts}
use Rattle.marks.specs.Marks.{unless, merged}
use Rattle.marks.specs.Plain.{plain_of}
use Rattle.marks.proofs.Cuts.{cut_nowhere}
use Rattle.marks.proofs.Merges.{at-merged, ascending-merged}
use Rattle.sessions.specs.declared.session.Session.{Session}
use Rattle.sessions.specs.Sessions.{marks_in, rows_below}
use Rattle.archive.specs.Answers.{plain_in}
use Rattle.archive.specs.Runs.{opened}

pub merged_none : (e : List Row) → ascending e ≡ true → merged [] e ≡ e
merged_none e up = same_rows (merged [] e) e (ascending-merged [] e up) up (λ p. at-merged [] e p ∙ ap (λ b. unless b (at e p)) (cut_nowhere p))

pub plain-opened : (e : List Row) → is_tree e ≡ true → plain_of [] e ≡ opened e
plain-opened e h = let own = merged_none e (tree_parts e h).0 in λ i. record { lower = e; own = own i; noted = []; remade = [] }

-- a session that was just opened over a tree
pub plain_open : {T : Type 0} (e : T → Entries) (s : Session T) (t : T) → marks_in s ≡ [] → s.lower ≡ t → plain_in e s ≡ opened (e t).rows
plain_open e s t m l = ap (λ z. plain_of z (rows_below e s)) m ∙ ap (λ z. plain_of [] (e z).rows) l ∙ plain-opened (e t).rows (e t).ok
