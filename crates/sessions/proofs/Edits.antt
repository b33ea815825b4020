-- An edit of a session, refused or granted. Assumes nothing.
use Rattle.std.proofs.Common.{◌≡◌, ℕ, ◌≤◌, true, List, length, is_some, Some, None, Ok, Err, Option, Result, sym, refl, ap, ◌∙◌, subst, arith}
use Rattle.std.proofs.lemmas.Bool.{true≢false}
use Rattle.paths.specs.declared.PathFault.{PathFault}
use Rattle.paths.specs.Names.{judge}
use Rattle.rows.specs.Maps.{Names}
use Rattle.trees.specs.declared.fault.Fault.{Fault}
use Rattle.trees.specs.Entries.{Row, fine, is_tree}
use Rattle.edits.specs.declared.action.Action.{Action}
use Rattle.edits.specs.Edits.{refused_at, answered, unless_refused, Outcome}
use Rattle.trees.proofs.Fine.{judged-fine}
use Rattle.edits.proofs.Granted.{granted-room}
use Rattle.edits.proofs.Outcomes.{bad_refusal, good-refusal, refused-outcome, granted-outcome}
use Rattle.marks.specs.Marks.{MarkRow, merged, layered}
use Rattle.marks.specs.Edits.{marked, lacks}
use Rattle.marks.proofs.Merges.{layer_parts}
use Rattle.marks.proofs.Edited.{entries-marked}
use Rattle.marks.proofs.Noted.{length_marked, lacks-granted}
use Rattle.sessions.specs.Sessions.{room_of, marked_in, refusal_over, marks_after}

-- ---- what `edit_marks` answers

module _ (m : List MarkRow) (e : List Row) (s : List ℕ) (a : Action) where
  pub refused_edit : (r : Result (Unit {0}) Fault) (f : Fault) → r ≡ Err f → refusal_over m e s a ≡ Some f → (r ≡ answered (refusal_over m e s a)) × (m ≡ marks_after m e s a)
  refused_edit r f h k = (h ∙ sym (ap answered k), sym (ap (λ o. unless_refused o m (marked_in m e a (judge s))) k))

  pub granted_edit : (p : Names) (m' : List MarkRow) → judge s ≡ Ok p → refused_at (merged m e) (room_of m) (lacks m p) p a ≡ None → m' ≡ marked m e p a → (Ok tt ≡ answered (refusal_over m e s a)) × (m' ≡ marks_after m e s a)
  granted_edit p m' j h k =
      let n = good-refusal (merged m e) (room_of m) (lacks m) s a p j ∙ h in
      (sym (ap answered n), k ∙ sym (ap (λ o. unless_refused o m (marked_in m e a (judge s))) n ∙ ap (marked_in m e a) j))

-- ---- the same as an editable tree

abbrev SessionOutcome : List MarkRow → List MarkRow → List Row → List ℕ → Action → Result (Unit {0}) Fault → Type 0
SessionOutcome m m' e s a r = Outcome (merged m e) (merged m' e) (room_of m) (room_of m') (lacks m) (lacks m') s a r

module _ (m : List MarkRow) (e : List Row) (lm : layered m ≡ true) (le : is_tree e ≡ true) (few : length m ≤ 192) (s : List ℕ) (a : Action) where
  -- the answer decides which of the two it was
  judged-good : (p : Names) → judge s ≡ Ok p → fine p ≡ true → refusal_over m e s a ≡ None → SessionOutcome m (marked m e p a) e s a (Ok tt)
  judged-good p j good n =
      let h = sym (good-refusal (merged m e) (room_of m) (lacks m) s a p j) ∙ n in
      granted-outcome (merged m e) (room_of m) (lacks m) s a p j h (merged (marked m e p a) e) (room_of (marked m e p a)) (lacks (marked m e p a)) (entries-marked m e lm le p (room_of m) (lacks m p) a h)
      (omega (arith, few, length_marked m e p (layer_parts m lm).0 a, granted-room (merged m e) (room_of m) (lacks m p) p a h))
      (λ r. lacks-granted m e lm le (room_of m) (lacks m p) p a r h)

  some-fault : (f : Fault) → refusal_over m e s a ≡ Some f → SessionOutcome m m e s a (Err f)
  some-fault f h = refused-outcome (merged m e) (room_of m) (lacks m) s a f h

  by_refusal : (o : Option Fault) (j : Result Names PathFault) → refusal_over m e s a ≡ o → judge s ≡ j → SessionOutcome m (unless_refused o m (marked_in m e a j)) e s a (answered o)
  by_refusal (Some f) j h k = some-fault f h
  by_refusal None (Ok p) h k = judged-good p k (judged-fine s p k) h
  by_refusal None (Err f) h k = absurd (true≢false (ap is_some (sym (bad_refusal (merged m e) (room_of m) (lacks m) s a f k) ∙ h)))

  -- what `edit` of an editable tree promises
  pub edit_outcome : (m' : List MarkRow) (e' : List Row) (r : Result (Unit {0}) Fault) → e' ≡ e → r ≡ answered (refusal_over m e s a) → m' ≡ marks_after m e s a → Outcome (merged m e) (merged m' e') (room_of m) (room_of m') (lacks m) (lacks m') s a r
  edit_outcome m' e' r low ans is =
      subst (λ z. Outcome (merged m e) (merged m' z) (room_of m) (room_of m') (lacks m) (lacks m') s a r) (sym low)
      (subst (λ z. SessionOutcome m m' e s a z) (sym ans) (subst (λ z. SessionOutcome m z e s a (answered (refusal_over m e s a))) (sym is) (by_refusal (refusal_over m e s a) (judge s) refl refl)))
