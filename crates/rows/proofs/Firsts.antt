-- The first row that passes a test. Assumes nothing.
use Rattle.std.proofs.Common.{◌≡◌, ℕ, Bool, true, false, cond, ◌⊎◌, List, [], ◌∷◌, ◌++◌, is_some, Some, None, Option, sym, refl, ap, ◌∙◌, subst, inl, inr, ⊎_elim, append_assoc, append-nil}
use Rattle.std.proofs.lemmas.Bool.{true≢false, and_parts, cond-true, cond-false, both_ways, false_from_ne_true}
use Rattle.std.specs.Option.{option_map}
use Rattle.paths.specs.Names.{parent}
use Rattle.rows.specs.Maps.{Names, before, first, is_at, at, has, above, ascending, rooted}
use Rattle.rows.proofs.Orders.{before-trans, not_before_self, same-is, is_same, parent-child}
use Rattle.std.proofs.lemmas.Option.{none-some}

module _ {V : Type 0} where
  abbrev pub In : List (Names × V) → Names × V → Type 0
  In [] r = ⊥
  In (x ∷ rs) r = (r ≡ x) ⊎ In rs r

  pub first_some : (t : Names × V → Bool) (rs : List (Names × V)) (r : Names × V) → first t rs ≡ Some r → In rs r × (t r ≡ true)
  first_some t [] r h = absurd (none-some r h)
  first_some t (x ∷ rs) r h = go (t x) refl (first_some t rs r) h where
    go : (b : Bool) → t x ≡ b → (first t rs ≡ Some r → In rs r × (t r ≡ true)) → cond b (Some x) (first t rs) ≡ Some r → In (x ∷ rs) r × (t r ≡ true)
    go true e more h =
        let same : x ≡ r = cc in
        (inl (sym same), ap t (sym same) ∙ e)
    go false e more h = let d = more h in (inr d.0, d.1)

  pub first-none : (t : Names × V → Bool) (rs : List (Names × V)) → first t rs ≡ None → (r : Names × V) → In rs r → t r ≡ false
  first-none t [] h r i = absurd i
  first-none t (x ∷ rs) h r i = go (t x) refl (λ g. first-none t rs g r) h where
    go : (b : Bool) → t x ≡ b → (first t rs ≡ None → In rs r → t r ≡ false) → cond b (Some x) (first t rs) ≡ None → t r ≡ false
    go true e more h = absurd (none-some x (sym h))
    go false e more h = ⊎_elim (λ s. ap t s ∙ e) (more h) i

  pub head_least : (r : Names × V) (rs : List (Names × V)) → ascending (r ∷ rs) ≡ true → (x : Names × V) → In rs x → before r.0 x.0 ≡ true
  head_least r [] h x i = absurd i
  head_least r (y ∷ rs) h x i =
      let p = and_parts (before r.0 y.0) (ascending (y ∷ rs)) h in
      ⊎_elim (λ s. subst (λ z. before r.0 z.0 ≡ true) (sym s) p.0) (λ j. before-trans r.0 y.0 x.0 p.0 (head_least y rs p.1 x j)) i

  pub tail-ascends : (r : Names × V) (rs : List (Names × V)) → ascending (r ∷ rs) ≡ true → ascending rs ≡ true
  tail-ascends r rs h = (and_parts (above r.0 rs) (ascending rs) h).1

  pub first-least : (t : Names × V → Bool) (rs : List (Names × V)) → ascending rs ≡ true → (r x : Names × V) → first t rs ≡ Some r → In rs x → t x ≡ true → (x ≡ r) ⊎ (before r.0 x.0 ≡ true)
  first-least t [] a r x h i p = absurd i
  first-least t (y ∷ rs) a r x h i p = go (t y) refl (λ g j. first-least t rs (tail-ascends y rs a) r x g j p) h where
    go : (b : Bool) → t y ≡ b → (first t rs ≡ Some r → In rs x → (x ≡ r) ⊎ (before r.0 x.0 ≡ true)) → cond b (Some y) (first t rs) ≡ Some r → (x ≡ r) ⊎ (before r.0 x.0 ≡ true)
    go true e more h =
        let same : y ≡ r = cc in
        ⊎_elim (λ s. inl (s ∙ same)) (λ j. inr (subst (λ z. before z.0 x.0 ≡ true) same (head_least y rs a x j))) i
    go false e more h = ⊎_elim (λ s. absurd (both_ways (t y) e (sym (ap t s) ∙ p))) (more h) i

  pub first-is : (t : Names × V → Bool) (rs : List (Names × V)) → ascending rs ≡ true → (r : Names × V) → In rs r → t r ≡ true → ((x : Names × V) → In rs x → before x.0 r.0 ≡ true → t x ≡ false) → first t rs ≡ Some r
  first-is t [] a r i p low = absurd i
  first-is t (y ∷ rs) a r i p low =
      ⊎_elim
      (λ s. cond-true (t y) (Some y) (first t rs) (sym (ap t s) ∙ p) ∙ ap Some (sym s))
      (λ j. cond-false (t y) (Some y) (first t rs) (low y (inl refl) (head_least y rs a r j)) ∙ first-is t rs (tail-ascends y rs a) r j p (λ x k. low x (inr k)))
      i

  pub first_no : (t : Names × V → Bool) (rs : List (Names × V)) → ((x : Names × V) → In rs x → t x ≡ false) → first t rs ≡ None
  first_no t [] n = refl
  first_no t (y ∷ rs) n = cond-false (t y) (Some y) (first t rs) (n y (inl refl)) ∙ first_no t rs (λ x k. n x (inr k))

  -- ---- what stands at a path

  pub holds_at : (rs : List (Names × V)) → ascending rs ≡ true → (p : Names) (e : V) → In rs (p, e) → at rs p ≡ Some e
  holds_at rs a p e i =
      ap (option_map (λ r. r.1)) (first-is (is_at p) rs a (p, e) i (is_same p p refl) low) where
        low : (x : Names × V) → In rs x → before x.0 p ≡ true → is_at p x ≡ false
        low x j b = false_from_ne_true (is_at p x) (λ h. not_before_self p (subst (λ z. before z p ≡ true) (same-is x.0 p h) b))

  pub at-holds : (rs : List (Names × V)) (p : Names) (e : V) → at rs p ≡ Some e → In rs (p, e)
  at-holds rs p e h = go (first (is_at p) rs) refl h where
    go : (o : Option (Names × V)) → first (is_at p) rs ≡ o → option_map (λ r. r.1) o ≡ Some e → In rs (p, e)
    go None f h = absurd (none-some e h)
    go (Some r) f h =
        let d = first_some (is_at p) rs r f in
        let k = same-is r.0 p d.1 in
        let v : r.1 ≡ e = cc in
        subst (In rs) (λ j. (k j, v j)) d.0

  pub there : (rs : List (Names × V)) (p : Names) → has rs p ≡ true → (e : V) × (at rs p ≡ Some e)
  there rs p h = go (at rs p) refl h where
    go : (o : Option V) → at rs p ≡ o → is_some o ≡ true → (e : V) × (at rs p ≡ Some e)
    go None f h = absurd (true≢false (sym h))
    go (Some e) f h = (e, f)

  -- ---- rows with their parents

  rooted_one : (all rs : List (Names × V)) → rooted all rs ≡ true → (r : Names × V) → In rs r → has all (parent r.0) ≡ true
  rooted_one all [] h r i = absurd i
  rooted_one all (x ∷ rs) h r i =
      let p = and_parts (has all (parent x.0)) (rooted all rs) h in
      ⊎_elim (λ s. ap (λ z. has all (parent z.0)) s ∙ p.0) (λ j. rooted_one all rs p.1 r j) i

  module _ (rs : List (Names × V)) (c : rooted rs rs ≡ true) where
    pub up : (p : Names) → has rs p ≡ true → has rs (parent p) ≡ true
    up p h = let d = there rs p h in rooted_one rs rs c (p, d.0) (at-holds rs p d.0 d.1)

    -- each prefix of a path that has a row has one
    pub prefix_there : (rest p : Names) → has rs (p ++ rest) ≡ true → has rs p ≡ true
    prefix_there [] p h = subst (λ z. has rs z ≡ true) (append-nil p) h
    prefix_there (n ∷ rest) p h =
        let k = prefix_there rest (p ++ n ∷ []) (subst (λ z. has rs z ≡ true) (sym (append_assoc p (n ∷ []) rest)) h) in
        subst (λ z. has rs z ≡ true) (parent-child p n) (up (p ++ n ∷ []) k)

    pub child-there : (n : List ℕ) (rest p : Names) → has rs (p ++ n ∷ rest) ≡ true → has rs (p ++ n ∷ []) ≡ true
    child-there n rest p h = prefix_there rest (p ++ n ∷ []) (subst (λ z. has rs z ≡ true) (sym (append_assoc p (n ∷ []) rest)) h)

  pub in-there : (rs : List (Names × V)) → ascending rs ≡ true → (r : Names × V) → In rs r → has rs r.0 ≡ true
  in-there rs a r i = ap is_some (holds_at rs a r.0 r.1 i)
