-- Rows of which each path is good, each value passes, and each parent is a directory. Assumes nothing.
use Rattle.std.proofs.Common.{◌≡◌, ℕ, Bool, true, false, ◌&&◌, List, [], ◌∷◌, ◌++◌, is_some, Some, None, Option, sym, refl, ap, ◌∙◌, subst, inl, inr, ⊎_elim}
use Rattle.std.proofs.lemmas.Bool.{both_ways, and_parts, and_from}
use Rattle.paths.specs.Names.{parent}
use Rattle.rows.specs.Maps.{Names, at, has, ascending, rooted, under}
use Rattle.rows.proofs.Orders.{parent-child}
use Rattle.rows.proofs.Firsts.{In, there, at-holds, holds_at, child-there}
use Rattle.rows.proofs.Unders.{strictly}
use Rattle.rows.proofs.Risen.{in_parts}
use Rattle.rows.proofs.Earlier.{passed-later}
use Rattle.trees.specs.Entries.{fine, grown}

-- what is said of one row
pub record Sound {V : Type 0} (passes : V → Bool) (dir : Option V → Bool) (all : List (Names × V)) (r : Names × V) : Type 0 where
  pub good : fine r.0 ≡ true
  pub ranged : passes r.1 ≡ true
  pub under : dir (at all (parent r.0)) ≡ true

module _ {V : Type 0} (passes : V → Bool) (dir : Option V → Bool) where
  pub grown_head : (all : List (Names × V)) (r : Names × V) (rs : List (Names × V)) → grown passes dir all (r ∷ rs) ≡ true → Sound passes dir all r × (grown passes dir all rs ≡ true)
  grown_head all r rs h =
      let p = and_parts ((fine r.0 && passes r.1) && dir (at all (parent r.0))) (grown passes dir all rs) h in
      let q = and_parts (fine r.0 && passes r.1) (dir (at all (parent r.0))) p.0 in
      let o = and_parts (fine r.0) (passes r.1) q.0 in
      (record { good = o.0; ranged = o.1; under = q.1 }, p.1)

  grown_one : (all rs : List (Names × V)) → grown passes dir all rs ≡ true → (r : Names × V) → In rs r → Sound passes dir all r
  grown_one all [] h r i = absurd i
  grown_one all (x ∷ rs) h r i =
      let p = grown_head all x rs h in
      ⊎_elim (λ s. subst (Sound passes dir all) (sym s) p.0) (λ j. grown_one all rs p.1 r j) i

  grown-from : (all rs : List (Names × V)) → ((r : Names × V) → In rs r → Sound passes dir all r) → grown passes dir all rs ≡ true
  grown-from all [] f = refl
  grown-from all (r ∷ rs) f =
      let s = f r (inl refl) in
      and_from ((fine r.0 && passes r.1) && dir (at all (parent r.0))) (grown passes dir all rs)
      (and_from (fine r.0 && passes r.1) (dir (at all (parent r.0))) (and_from (fine r.0) (passes r.1) s.good s.ranged) s.under)
      (grown-from all rs (λ x i. f x (inr i)))

  -- one row more behind the others
  pub grown_more : dir None ≡ false → (rs : List (Names × V)) (r : Names × V) → ascending (rs ++ r ∷ []) ≡ true → grown passes dir rs rs ≡ true → Sound passes dir (rs ++ r ∷ []) r → grown passes dir (rs ++ r ∷ []) (rs ++ r ∷ []) ≡ true
  grown_more n rs r up g last = grown-from (rs ++ r ∷ []) (rs ++ r ∷ []) (λ x i. ⊎_elim (before x) (behind x) (in_parts rs (r ∷ []) x i)) where
    before : (x : Names × V) → In rs x → Sound passes dir (rs ++ r ∷ []) x
    before x i =
        let s = grown_one rs rs g x i in
        record { good = s.good; ranged = s.ranged; under = passed-later rs r [] up dir n (parent x.0) s.under }

    behind : (x : Names × V) → In (r ∷ []) x → Sound passes dir (rs ++ r ∷ []) x
    behind x (inl e) = subst (Sound passes dir (rs ++ r ∷ [])) (sym e) last
    behind x (inr i) = absurd i

  pub sound-at : (rs : List (Names × V)) → grown passes dir rs rs ≡ true → (p : Names) (v : V) → at rs p ≡ Some v → Sound passes dir rs (p, v)
  sound-at rs g p v h = grown_one rs rs g (p, v) (at-holds rs p v h)

  -- said of each path, it holds of all rows
  pub grown_by : (rs : List (Names × V)) → ascending rs ≡ true → ((p : Names) (v : V) → at rs p ≡ Some v → Sound passes dir rs (p, v)) → grown passes dir rs rs ≡ true
  grown_by rs up f = grown-from rs rs (λ r i. f r.0 r.1 (holds_at rs up r.0 r.1 i))

  module _ (real : (o : Option V) → dir o ≡ true → is_some o ≡ true) where
    -- so each row's parent has a row
    pub grown-rooted : (all rs : List (Names × V)) → grown passes dir all rs ≡ true → rooted all rs ≡ true
    grown-rooted all [] h = refl
    grown-rooted all (r ∷ rs) h =
        let p = grown_head all r rs h in
        and_from (has all (parent r.0)) (rooted all rs) (real (at all (parent r.0)) p.0.under) (grown-rooted all rs p.1)

    module _ (rs : List (Names × V)) (g : grown passes dir rs rs ≡ true) where
      -- a row below a path has the child of that path above it
      child-row : (p q : Names) → under p q ≡ true → under q p ≡ false → has rs q ≡ true → (n : List ℕ) × (has rs (p ++ n ∷ []) ≡ true)
      child-row p q u w h =
          let d = strictly p q u w in
          (d.0, child-there rs (grown-rooted rs rs g) d.0 d.1 p (subst (λ z. has rs z ≡ true) d.2 h))

      -- what has a row below it is a directory
      pub dir-above : (p q : Names) → under p q ≡ true → under q p ≡ false → has rs q ≡ true → dir (at rs p) ≡ true
      dir-above p q u w h =
          let c = child-row p q u w h in
          let t = there rs (p ++ c.0 ∷ []) c.1 in
          ap (λ z. dir (at rs z)) (sym (parent-child p c.0)) ∙ (sound-at rs g (p ++ c.0 ∷ []) t.0 t.1).under

      pub none_below : (p q : Names) → under p q ≡ true → under q p ≡ false → dir (at rs p) ≡ false → at rs q ≡ None
      none_below p q u w d = go (at rs q) refl where
        go : (o : Option V) → at rs q ≡ o → o ≡ None
        go None e = refl
        go (Some v) e = absurd (both_ways (dir (at rs p)) d (dir-above p q u w (ap is_some e)))
