-- What stands before a row's path is among the rows before it. Assumes nothing.
use Rattle.std.proofs.Common.{◌≡◌, ℕ, Bool, true, false, List, [], ◌∷◌, ◌++◌, Some, None, Option, sym, refl, ap, ◌∙◌, inl, ⊎_elim, append-nil}
use Rattle.std.proofs.lemmas.Bool.{both_ways}
use Rattle.std.specs.Ordering.{is_lt}
use Rattle.paths.specs.Names.{parent, last_name}
use Rattle.rows.specs.Maps.{Names, before, at, ascending}
use Rattle.rows.proofs.Orders.{shared, as_child, not_before-same, not_both}
use Rattle.rows.proofs.Risen.{in_left, in_right, in_parts, ascends_right, ascends-left}
use Rattle.rows.proofs.Firsts.{In, head_least, holds_at, at-holds}

pub parent-before : (n : List ℕ) (p : Names) → before (parent (n ∷ p)) (n ∷ p) ≡ true
parent-before n p =
    let q : Names = parent (n ∷ p) in
    let l : Names = last_name (n ∷ p) ∷ [] in
    ap (before q) (as_child n p) ∙ ap (λ z. before z (q ++ l)) (sym (append-nil q)) ∙ ap is_lt (shared q [] l)

module _ {V : Type 0} where
  -- what passes a test that nothing passes
  pub some-passed : (test : Option V → Bool) (o : Option V) → test None ≡ false → test o ≡ true → (v : V) × (o ≡ Some v)
  some-passed test None n h = absurd (both_ways (test None) n h)
  some-passed test (Some v) n h = (v, refl)

  module _ (done : List (Names × V)) (r : Names × V) (rest : List (Names × V)) (a : ascending (done ++ r ∷ rest) ≡ true) where
    earlier : (q : Names) → before q r.0 ≡ true → (v : V) → In (done ++ r ∷ rest) (q, v) → In done (q, v)
    earlier q b v i = ⊎_elim (λ j. j) late (in_parts done (r ∷ rest) (q, v) i) where
      late : In (r ∷ rest) (q, v) → In done (q, v)
      late j =
          ⊎_elim
          (λ s. absurd (not_before-same q r.0 (ap (λ z. z.0) s) b))
          (λ k. absurd (not_both q r.0 b (head_least r rest (ascends_right done (r ∷ rest) a) (q, v) k)))
          j

    -- what passes a test there passes it among them
    pub passed-earlier : (test : Option V → Bool) → test None ≡ false → (q : Names) → before q r.0 ≡ true → test (at (done ++ r ∷ rest) q) ≡ true → test (at done q) ≡ true
    passed-earlier test n q b d =
        let s = some-passed test (at (done ++ r ∷ rest) q) n d in
        let i = earlier q b s.0 (at-holds (done ++ r ∷ rest) q s.0 s.1) in
        ap test (holds_at done (ascends-left done (r ∷ rest) a) q s.0 i) ∙ sym (ap test s.1) ∙ d

    -- and what passes it among them passes it there
    pub passed-later : (test : Option V → Bool) → test None ≡ false → (q : Names) → test (at done q) ≡ true → test (at (done ++ r ∷ rest) q) ≡ true
    passed-later test n q d =
        let s = some-passed test (at done q) n d in
        let i = in_left done (r ∷ rest) (q, s.0) (at-holds done q s.0 s.1) in
        ap test (holds_at (done ++ r ∷ rest) a q s.0 i) ∙ sym (ap test s.1) ∙ d

    pub itself-there : at (done ++ r ∷ rest) r.0 ≡ Some r.1
    itself-there = holds_at (done ++ r ∷ rest) a r.0 r.1 (in_right done (r ∷ rest) r (inl refl))
