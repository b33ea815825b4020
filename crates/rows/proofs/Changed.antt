-- What an edit makes of rows: kept by a test, with a value replaced, with rows put among them. Assumes nothing.
use Rattle.rows.proofs.Risen.{in_left, in_right}
use Rattle.std.proofs.Common.{◌≡◌, ◌+◌, Bool, true, false, cond, not, ◌&&◌, List, [], ◌∷◌, ◌++◌, map, length, take, drop, is_some, Some, None, Decides, Option, sym, refl, ap, ◌∙◌, inl, inr, ⊎_elim, append-nil, arith}
use Rattle.std.proofs.lemmas.List.{length-append, length-take, length-drop, take-append-drop}
use Rattle.std.proofs.lemmas.Bool.{true≢false, and_from}
use Rattle.std.specs.Option.{option_map, option_or}
use Rattle.std.specs.Ordering.{is_eq}
use Rattle.paths.specs.Names.{Under}
use Rattle.paths.specs.Order.{by_names}
use Rattle.rows.specs.Maps.{Names, before, under, is_at, at, above, ascending, only, without, replaced}
use Rattle.rows.specs.Builds.{same}
use Rattle.rows.specs.Positions.{lead}
use Rattle.rows.specs.Tables.{spliced}
use Rattle.rows.proofs.Orders.{same-is, is_same, not_before_self}
use Rattle.rows.proofs.Built.{at-cons}
use Rattle.rows.proofs.Unders.{under_rest, under_goes}
use Rattle.rows.proofs.Firsts.{In, head_least, tail-ascends, at-holds}

-- ---- paths under paths

pub under-says : (p q : Names) → Decides (under p q) (Under p q)
under-says p q = (under_rest p q, λ u. ap (under p) u.1 ∙ under_goes p u.0)

module _ {V : Type 0} where
  above_all : (p : Names) (rs : List (Names × V)) → ((x : Names × V) → In rs x → before p x.0 ≡ true) → above p rs ≡ true
  above_all p [] h = refl
  above_all p (r ∷ rs) h = h r (inl refl)

  -- ---- kept by a test

  module _ (t : Names → Bool) where
    in-only : (rs : List (Names × V)) (x : Names × V) → In (only t rs) x → In rs x
    in-only [] x i = i
    in-only (r ∷ rs) x i = go (t r.0) (in-only rs x) i where
      go : (a : Bool) → (In (only t rs) x → In rs x) → In (cond a (r ∷ only t rs) (only t rs)) x → In (r ∷ rs) x
      go true more i = ⊎_elim (λ s. inl s) (λ j. inr (more j)) i
      go false more i = inr (more i)

    at_only : (rs : List (Names × V)) (q : Names) → at (only t rs) q ≡ cond (t q) (at rs q) None
    at_only [] q = elim (t q) as (λ c. ◌≡◌ {A = Option V} None (cond c None None)) [ true ↦ refl | false ↦ refl ]
    at_only (r ∷ rs) q =
        keep (t r.0)
        ∙ ap (λ o. cond (t r.0 && is_at q r) (Some r.1) o) (at_only rs q)
        ∙ mix (t r.0) (is_at q r) (t q) (λ s. ap t (same-is r.0 q s))
        ∙ ap (λ o. cond (t q) o None) (sym (at-cons r rs q)) where
          keep : (a : Bool) → at (cond a (r ∷ only t rs) (only t rs)) q ≡ cond (a && is_at q r) (Some r.1) (at (only t rs) q)
          keep true = at-cons r (only t rs) q
          keep false = refl

          mix : (a b c : Bool) → (b ≡ true → a ≡ c) → cond (a && b) (Some r.1) (cond c (at rs q) None) ≡ cond c (cond b (Some r.1) (at rs q)) None
          mix true true true h = refl
          mix true true false h = absurd (true≢false (h refl))
          mix false true true h = absurd (true≢false (sym (h refl)))
          mix false true false h = refl
          mix true false c h = refl
          mix false false c h = refl

    pub ascending-only : (rs : List (Names × V)) → ascending rs ≡ true → ascending (only t rs) ≡ true
    ascending-only [] up = refl
    ascending-only (r ∷ rs) up = go (t r.0) (ascending-only rs (tail-ascends r rs up)) where
      go : (a : Bool) → ascending (only t rs) ≡ true → ascending (cond a (r ∷ only t rs) (only t rs)) ≡ true
      go true more = and_from (above r.0 (only t rs)) (ascending (only t rs)) (above_all r.0 (only t rs) (λ x i. head_least r rs up x (in-only rs x i))) more
      go false more = more

  pub at-without : (p : Names) (rs : List (Names × V)) (q : Names) → at (without p rs) q ≡ cond (under p q) None (at rs q)
  at-without p rs q = at_only (λ z. not (under p z)) rs q ∙ elim (under p q) as (λ t. cond (not t) (at rs q) None ≡ cond t None (at rs q)) [ true ↦ refl | false ↦ refl ]

  -- ---- with a value replaced

  module _ (p : Names) (v : V) where
    pub at-replaced : (rs : List (Names × V)) (q : Names) → at (replaced rs p v) q ≡ cond (is_eq (by_names q p)) (option_map (λ _. v) (at rs q)) (at rs q)
    at-replaced [] q = elim (is_eq (by_names q p)) as (λ c. ◌≡◌ {A = Option V} None (cond c None None)) [ true ↦ refl | false ↦ refl ]
    at-replaced (r ∷ rs) q =
        step (is_at p r)
        ∙ ap (λ o. cond (is_at p r) (cond (is_at q r) (Some v) (at rs q)) (cond (is_at q r) (Some r.1) o)) (at-replaced rs q)
        ∙ mix (is_at p r) (is_at q r) (is_eq (by_names q p)) (at rs q) (λ s. ap (λ z. is_eq (by_names z p)) (same-is r.0 q s)) (λ s c. is_same r.0 q (same-is r.0 p s ∙ sym (same-is q p c)))
        ∙ ap (λ o. cond (is_eq (by_names q p)) (option_map (λ _. v) o) o) (sym (at-cons r rs q)) where
          step : (a : Bool) → at (cond a ((r.0, v) ∷ rs) (r ∷ replaced rs p v)) q ≡ cond a (cond (is_at q r) (Some v) (at rs q)) (cond (is_at q r) (Some r.1) (at (replaced rs p v) q))
          step true = at-cons (r.0, v) rs q
          step false = at-cons r (replaced rs p v) q

          mix : (a b c : Bool) (o : Option V) → (b ≡ true → a ≡ c) → (a ≡ true → c ≡ true → b ≡ true)
              → cond a (cond b (Some v) o) (cond b (Some r.1) (cond c (option_map (λ _. v) o) o)) ≡ cond c (option_map (λ _. v) (cond b (Some r.1) o)) (cond b (Some r.1) o)
          mix true true true o h k = refl
          mix true true false o h k = absurd (true≢false (h refl))
          mix false true true o h k = absurd (true≢false (sym (h refl)))
          mix false true false o h k = refl
          mix true false true o h k = absurd (true≢false (sym (k refl refl)))
          mix true false false o h k = refl
          mix false false c o h k = refl

    pub keys-replaced : (rs : List (Names × V)) → map (λ r. r.0) (replaced rs p v) ≡ map (λ r. r.0) rs
    keys-replaced [] = refl
    keys-replaced (r ∷ rs) = go (is_at p r) (keys-replaced rs) where
      go : (a : Bool) → map (λ r. r.0) (replaced rs p v) ≡ map (λ r. r.0) rs → map (λ r. r.0) (cond a ((r.0, v) ∷ rs) (r ∷ replaced rs p v)) ≡ r.0 ∷ map (λ r. r.0) rs
      go true more = refl
      go false more = ap (λ ks. r.0 ∷ ks) more

    above-replaced : (q : Names) (rs : List (Names × V)) → above q (replaced rs p v) ≡ above q rs
    above-replaced q [] = refl
    above-replaced q (r ∷ rs) = elim (is_at p r) as (λ a. above q (cond a ((r.0, v) ∷ rs) (r ∷ replaced rs p v)) ≡ before q r.0) [ true ↦ refl | false ↦ refl ]

    pub ascending-replaced : (rs : List (Names × V)) → ascending (replaced rs p v) ≡ ascending rs
    ascending-replaced [] = refl
    ascending-replaced (r ∷ rs) = go (is_at p r) (ascending-replaced rs) where
      go : (a : Bool) → ascending (replaced rs p v) ≡ ascending rs → ascending (cond a ((r.0, v) ∷ rs) (r ∷ replaced rs p v)) ≡ (above r.0 rs && ascending rs)
      go true more = refl
      go false more = ap (λ b. b && ascending (replaced rs p v)) (above-replaced r.0 rs) ∙ ap (λ b. above r.0 rs && b) more

    pub replaced-none : (rs : List (Names × V)) → at rs p ≡ None → replaced rs p v ≡ rs
    replaced-none [] n = refl
    replaced-none (r ∷ rs) n = go (is_at p r) (replaced-none rs) (sym (at-cons r rs p) ∙ n) where
      go : (a : Bool) → (at rs p ≡ None → replaced rs p v ≡ rs) → cond a (Some r.1) (at rs p) ≡ None → cond a ((r.0, v) ∷ rs) (r ∷ replaced rs p v) ≡ r ∷ rs
      go true more n = absurd (true≢false (ap is_some n))
      go false more n = ap (λ xs. r ∷ xs) (more n)

  -- ---- with rows put among them

  -- what stands in front comes before what stands behind
  front-before : (xs ys : List (Names × V)) → ascending (xs ++ ys) ≡ true → (x y : Names × V) → In xs x → In ys y → before x.0 y.0 ≡ true
  front-before [] ys up x y i j = absurd i
  front-before (z ∷ xs) ys up x y i j =
      ⊎_elim (λ s. ap (λ w. before w.0 y.0) s ∙ head_least z (xs ++ ys) up y (in_right xs ys y j)) (λ k. front-before xs ys (tail-ascends z (xs ++ ys) up) x y k j) i

  pub at-append : (xs ys : List (Names × V)) (q : Names) → at (xs ++ ys) q ≡ option_or (at xs q) (at ys q)
  at-append [] ys q = refl
  at-append (x ∷ xs) ys q = at-cons x (xs ++ ys) q ∙ go (is_at q x) (at-append xs ys q) ∙ ap (λ o. option_or o (at ys q)) (sym (at-cons x xs q)) where
    go : (a : Bool) → at (xs ++ ys) q ≡ option_or (at xs q) (at ys q) → cond a (Some x.1) (at (xs ++ ys) q) ≡ option_or (cond a (Some x.1) (at xs q)) (at ys q)
    go true more = refl
    go false more = more

  swap : (a b c : Option V) → ((x y : V) → a ≡ Some x → b ≡ Some y → ⊥) → option_or a (option_or b c) ≡ option_or b (option_or a c)
  swap None b c h = refl
  swap (Some x) None c h = refl
  swap (Some x) (Some y) c h = absurd (h x y refl refl)

  at-between : (front new back : List (Names × V)) (q : Names) → ascending (front ++ (new ++ back)) ≡ true → at (front ++ (new ++ back)) q ≡ option_or (at new q) (at (front ++ back) q)
  at-between front new back q up =
      at-append front (new ++ back) q
      ∙ ap (option_or (at front q)) (at-append new back q)
      ∙ swap (at front q) (at new q) (at back q) apart
      ∙ ap (option_or (at new q)) (sym (at-append front back q)) where
        apart : (x y : V) → at front q ≡ Some x → at new q ≡ Some y → ⊥
        apart x y e f = not_before_self q (front-before front (new ++ back) up (q, x) (q, y) (at-holds front q x e) (in_left new back (q, y) (at-holds new q y f)))

  -- rows that rise, with one more behind them
  pub at-last : (rs : List (Names × V)) (r : Names × V) (q : Names) → ascending (rs ++ r ∷ []) ≡ true → at (rs ++ r ∷ []) q ≡ cond (same q r.0) (Some r.1) (at rs q)
  at-last rs r q up =
      at-between rs (r ∷ []) [] q up
      ∙ ap (λ o. option_or o (at (rs ++ []) q)) (at-cons r [] q)
      ∙ ap (λ xs. option_or (cond (same q r.0) (Some r.1) None) (at xs q)) (append-nil rs)
      ∙ elim (same q r.0) as (λ t. option_or (cond t (Some r.1) None) (at rs q) ≡ cond t (Some r.1) (at rs q)) [ true ↦ refl | false ↦ refl ]

  pub at-spliced : (new rs : List (Names × V)) (q : Names) → ascending (spliced new rs) ≡ true → at (spliced new rs) q ≡ option_or (at new q) (at rs q)
  at-spliced [] rs q up = refl
  at-spliced (n ∷ new) rs q up =
      at-between (take (lead n.0 rs) rs) (n ∷ new) (drop (lead n.0 rs) rs) q up
      ∙ ap (λ xs. option_or (at (n ∷ new) q) (at xs q)) (take-append-drop (lead n.0 rs) rs)

  pub length-spliced : (new rs : List (Names × V)) → length (spliced new rs) ≡ length rs + length new
  length-spliced [] rs = omega arith
  length-spliced (n ∷ new) rs = simp (length-append, length-take, length-drop) (omega arith)
