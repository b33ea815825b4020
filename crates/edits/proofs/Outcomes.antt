-- The outcome of an edit, refused or granted. Assumes nothing.
use Rattle.std.proofs.Common.{◌≡◌, ℕ, ◌+◌, ◌≤◌, false, List, is_some, is_ok, Some, None, Ok, Err, Option, Result, sym, refl, ap, ◌∙◌, subst}
use Rattle.std.proofs.lemmas.Bool.{true≢false}
use Rattle.paths.specs.declared.PathFault.{PathFault}
use Rattle.paths.specs.Names.{judge}
use Rattle.rows.specs.Maps.{Names}
use Rattle.trees.specs.declared.fault.Fault.{Fault}
use Rattle.trees.specs.declared.fault.Fault.TheVariants.{Path}
use Rattle.trees.specs.Entries.{Row}
use Rattle.edits.specs.declared.action.Action.{Action}
use Rattle.edits.specs.Edits.{refused_at, refused_in, refusal, edited, edited_in, answered, unless_refused, removes, Outcome}

-- what an answer says of the checks
pub answered-none : (o : Option Fault) (u : Unit {0}) → ◌≡◌ {A = Result (Unit {0}) Fault} (Ok u) (answered o) → o ≡ None
answered-none None u e = refl
answered-none (Some f) u e = absurd (true≢false (ap is_ok e))

pub answered-some : (o : Option Fault) (f : Fault) → ◌≡◌ {A = Result (Unit {0}) Fault} (Err f) (answered o) → o ≡ Some f
answered-some None f e = absurd (true≢false (ap is_ok (sym e)))
answered-some (Some g) f e =
    let same : f ≡ g = cc in
    ap Some (sym same)

module _ (rs : List Row) (room : ℕ) (needs : Names → ℕ) (s : List ℕ) (a : Action) where
  pub bad_refusal : (f : PathFault) → judge s ≡ Err f → refusal rs room needs s a ≡ Some (Path f)
  unfolding refusal
  bad_refusal f h = ap (refused_in rs room needs a) h

  pub good-refusal : (p : Names) → judge s ≡ Ok p → refusal rs room needs s a ≡ refused_at rs room (needs p) p a
  unfolding refusal
  good-refusal p h = ap (refused_in rs room needs a) h

  -- nothing has changed
  pub refused-outcome : (f : Fault) → refusal rs room needs s a ≡ Some f → Outcome rs rs room room needs needs s a (Err f)
  refused-outcome f h = record {
    answer = sym (ap answered h);
    entries = sym (ap (λ o. unless_refused o rs (edited_in rs a (judge s))) h);
    spent = record { kept = λ g k. (refl, λ p. refl); falls = λ p j k. not_both k; settled = λ p j k r. not_both k };
  } where
    not_both : {P : Type 0} → refusal rs room needs s a ≡ None → P
    not_both k = absurd (true≢false (ap is_some (sym h ∙ k)))

  pub granted-outcome : (p : Names) → judge s ≡ Ok p → refused_at rs room (needs p) p a ≡ None → (rs' : List Row) (room' : ℕ) (needs' : Names → ℕ) → rs' ≡ edited rs p a → room ≤ room' + needs p → (removes a ≡ false → needs' p ≡ 0) → Outcome rs rs' room room' needs needs' s a (Ok tt)
  granted-outcome p j h rs' room' needs' made less done = record {
    answer = sym (ap answered none);
    entries = made ∙ sym (ap (λ o. unless_refused o rs (edited_in rs a (judge s))) none ∙ ap (edited_in rs a) j);
    spent = record {
      kept = λ g k. absurd (true≢false (ap is_some (sym k ∙ none)));
      falls = λ q k n. subst (λ z. room ≤ room' + needs z) (same q k) less;
      settled = λ q k n r. ap needs' (sym (same q k)) ∙ done r;
    };
  } where
    none : refusal rs room needs s a ≡ None
    none = good-refusal p j ∙ h

    same : (q : Names) → judge s ≡ Ok q → p ≡ q
    same q k = cc
