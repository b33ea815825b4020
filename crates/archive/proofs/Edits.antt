-- An edit of a layer over a tree, told by the plain map. Assumes nothing.
use Rattle.std.proofs.Common.{◌≡◌, ℕ, ◌-◌, true, List, length, Some, None, Ok, Err, Option, Result, sym, refl, ap, ◌∙◌}
use Rattle.paths.specs.declared.PathFault.{PathFault}
use Rattle.paths.specs.Names.{judge}
use Rattle.rows.specs.Maps.{Names}
use Rattle.rows.specs.Builds.{keys}
use Rattle.trees.specs.declared.fault.Fault.{Fault}
use Rattle.trees.specs.Entries.{Entries, Row, is_tree}
use Rattle.edits.specs.declared.action.Action.{Action}
use Rattle.edits.specs.Edits.{refusal, need_of, answered, unless_refused}
use Rattle.edits.proofs.Outcomes.{good-refusal}
use Rattle.marks.specs.Marks.{MarkRow, merged, layered}
use Rattle.marks.specs.Edits.{lacks}
use Rattle.marks.specs.Plain.{unnoted, plain_of}
use Rattle.marks.proofs.Counts.{length-keys}
use Rattle.marks.proofs.Noted.{lacks-unnoted}
use Rattle.marks.proofs.Remade.{plain-marked}
use Rattle.sessions.specs.declared.session.Session.{Session}
use Rattle.sessions.specs.Sessions.{room_of, marked_in, refusal_over, marks_after, marks_in, rows_below}
use Rattle.archive.specs.Calls.{edit, edited}
use Rattle.archive.specs.Answers.{plain_in, answer, room_in, refusal_in, granted_in, after}

same_needs : (m : List MarkRow) → ◌≡◌ {A = Names → ℕ} (lacks m) (unnoted (keys m))
same_needs m = λ i p. lacks-unnoted m p i

pub same_room : (m : List MarkRow) → room_of m ≡ 192 - length (keys m)
same_room m = ap (λ n. 192 - n) (sym (length-keys m))

pub same_need : (m : List MarkRow) (s : List ℕ) → need_of (lacks m) s ≡ need_of (unnoted (keys m)) s
same_need m s = ap (λ f. need_of f s) (same_needs m)

module _ (m : List MarkRow) (e : List Row) where
  same_refusal : (s : List ℕ) (a : Action) → refusal_over m e s a ≡ refusal_in (plain_of m e) s a
  same_refusal s a =
      ap (λ n. refusal (merged m e) n (lacks m) s a) (same_room m)
      ∙ ap (λ f. refusal (merged m e) (room_in (plain_of m e)) f s a) (same_needs m)

  -- the plain map of the marks after an edit, granted or not
  plain_after : layered m ≡ true → is_tree e ≡ true → (s : List ℕ) (a : Action) → plain_of (marks_after m e s a) e ≡ after (plain_of m e) (edit s a)
  plain_after lm le s a =
      go (refusal_over m e s a) (judge s) refl refl
      ∙ ap (λ o. unless_refused o (plain_of m e) (granted_in (plain_of m e) a (judge s))) (same_refusal s a) where
        go : (o : Option Fault) (j : Result Names PathFault) → refusal_over m e s a ≡ o → judge s ≡ j → plain_of (unless_refused o m (marked_in m e a j)) e ≡ unless_refused o (plain_of m e) (granted_in (plain_of m e) a j)
        go (Some f) j h k = refl
        go None (Err f) h k = refl
        go None (Ok p) h k = plain-marked m e lm le (room_of m) (lacks m p) p a (sym (good-refusal (merged m e) (room_of m) (lacks m) s a p k) ∙ h)

-- ---- the same of a session's calls

module _ {T : Type 0} (e : T → Entries) (s : Session T) where
  pub edit_reply : (p : List ℕ) (a : Action) (r : Result (Unit {0}) Fault) → r ≡ answered (refusal_over (marks_in s) (rows_below e s) p a) → edited r ≡ answer (plain_in e s) (edit p a)
  edit_reply p a r h = ap edited (h ∙ ap answered (same_refusal (marks_in s) (rows_below e s) p a))

  pub edit_after : (p : List ℕ) (a : Action) (s' : Session T) → marks_in s' ≡ marks_after (marks_in s) (rows_below e s) p a → s'.lower ≡ s.lower → plain_in e s' ≡ after (plain_in e s) (edit p a)
  edit_after p a s' m l =
      ap (λ z. plain_of z (rows_below e s')) m
      ∙ ap (λ z. plain_of (marks_after (marks_in s) (rows_below e s) p a) (e z).rows) l
      ∙ plain_after (marks_in s) (rows_below e s) s.layer.grown (e s.lower).ok p a
