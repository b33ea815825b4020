-- What the proper prefixes of a path say of it. Assumes nothing.
use Rattle.std.proofs.Common.{◌≡◌, Bool, true, false, ◌||◌, List, [], ◌∷◌, ◌++◌, Some, None, Option, sym, refl, ap, ◌∙◌, ⊎_elim}
use Rattle.std.proofs.Math.Bool.{or_assoc, or-false, or-true}
use Rattle.std.proofs.lemmas.Bool.{true≢false, or_cases}
use Rattle.marks.specs.declared.mark.Mark.{Mark}
use Rattle.marks.specs.declared.mark.Mark.TheVariants.{Whiteout, File, Dir, Opaque}
use Rattle.marks.specs.Marks.{stops, is_opaque, below, some_proper, cut}

-- ---- a test of the proper prefixes

module _ {N : Type 0} where
  -- one name more: the path without it, and the test there
  pub proper-child : (t : List N → Bool) (q : List N) (n : N) → some_proper t (q ++ n ∷ []) ≡ (some_proper t q || t q)
  proper-child t [] n = or-false (t [])
  proper-child t (k ∷ q) n = ap (λ b. t [] || b) (proper-child (below t k) q n) ∙ sym (or_assoc (t []) (some_proper (below t k) q) (t (k ∷ q)))

  -- tests that are alike at each proper prefix
  pub proper_alike : (t u : List N → Bool) (q : List N) → ((r : List N) (n : N) (s : List N) → q ≡ r ++ n ∷ s → t r ≡ u r) → some_proper t q ≡ some_proper u q
  proper_alike t u [] h = refl
  proper_alike t u (n ∷ q) h =
      ap (λ b. b || some_proper (below t n) q) (h [] n q refl)
      ∙ ap (λ b. u [] || b) (proper_alike (below t n) (below u n) q (λ r j s e. h (n ∷ r) j s (ap (λ l. n ∷ l) e)))

  -- a proper prefix that passes
  pub proper_at : (t : List N → Bool) (q : List N) (n : N) (r : List N) → t q ≡ true → some_proper t (q ++ n ∷ r) ≡ true
  proper_at t [] n r h = ap (λ b. b || some_proper (below t n) r) h
  proper_at t (k ∷ q) n r h = ap (λ b. t [] || b) (proper_at (below t k) q n r h) ∙ or-true (t [])

  abbrev Passed : (List N → Bool) → List N → Type 0
  Passed t p = (q : List N) × (n : N) × (r : List N) × (p ≡ q ++ n ∷ r) × (t q ≡ true)

  pub proper_finds : (t : List N → Bool) (p : List N) → some_proper t p ≡ true → Passed t p
  proper_finds t [] h = absurd (true≢false (sym h))
  proper_finds t (n ∷ p) h =
      ⊎_elim
      (λ s. ([], n, p, refl, s))
      (λ s. let w = proper_finds (below t n) p s in (n ∷ w.0, w.1, w.2, ap (λ r. n ∷ r) w.3, w.4))
      (or_cases (t []) (some_proper (below t n) p) h)

-- ---- what is cut off

-- marks that stop alike at each proper prefix
pub cut_alike : {N : Type 0} (m k : List N → Option Mark) (q : List N) → ((r : List N) (n : N) (s : List N) → q ≡ r ++ n ∷ s → stops (m r) ≡ stops (k r)) → cut m q ≡ cut k q
cut_alike m k q h = proper_alike (λ r. stops (m r)) (λ r. stops (k r)) q h

-- without marks nothing is
pub cut_nowhere : {N : Type 0} (p : List N) → cut (λ _. None) p ≡ false
cut_nowhere [] = refl
cut_nowhere (n ∷ p) = cut_nowhere p

opaque-stops : (o : Option Mark) → is_opaque o ≡ true → stops o ≡ true
opaque-stops None h = h
opaque-stops (Some Whiteout) h = refl
opaque-stops (Some (File f)) h = refl
opaque-stops (Some (Dir d)) h = h
opaque-stops (Some (Opaque d)) h = refl

-- below an opaque directory a path is cut off
pub opaque_cuts : {N : Type 0} (p : List N) (m : List N → Option Mark) → some_proper (λ q. is_opaque (m q)) p ≡ true → cut m p ≡ true
opaque_cuts p m h =
    let w = proper_finds (λ q. is_opaque (m q)) p h in
    ap (cut m) w.3 ∙ proper_at (λ q. stops (m q)) w.0 w.1 w.2 (opaque-stops (m w.0) w.4)
