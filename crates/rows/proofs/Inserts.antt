-- Rows at and below a path where no row is yet can be put among rows. Assumes nothing.
use Rattle.std.proofs.Common.{◌≡◌, suc, Bool, true, false, cond, List, [], ◌∷◌, ◌++◌, drop, sym, refl, ap, ◌∙◌, inl, inr, ⊎_elim}
use Rattle.std.proofs.lemmas.Bool.{true≢false, and_parts, and_from}
use Rattle.paths.proofs.Laws.{between}
use Rattle.rows.specs.Maps.{Names, before, under, above, ascending}
use Rattle.rows.specs.Positions.{lead}
use Rattle.rows.specs.Tables.{spliced}
use Rattle.rows.proofs.Orders.{before-trans}
use Rattle.rows.proofs.Firsts.{In, head_least, tail-ascends}
use Rattle.rows.proofs.Places.{not_before-le}
use Rattle.rows.proofs.Changed.{under-says}
use Rattle.rows.proofs.Ranges.{splice_rises, ascending-drop}

module _ {V : Type 0} where
  -- two lists that rise, each row of one before each of the other
  ascending-append : (xs ys : List (Names × V)) → ascending xs ≡ true → ascending ys ≡ true → ((x y : Names × V) → In xs x → In ys y → before x.0 y.0 ≡ true) → ascending (xs ++ ys) ≡ true
  ascending-append [] ys a b f = b
  ascending-append (x ∷ xs) ys a b f =
      and_from (above x.0 (xs ++ ys)) (ascending (xs ++ ys)) (first-is xs ys (and_parts (above x.0 xs) (ascending xs) a).0 (λ y i. f x y (inl refl) i)) (ascending-append xs ys (tail-ascends x xs a) b (λ z y i j. f z y (inr i) j)) where
        first-is : (xs ys : List (Names × V)) → above x.0 xs ≡ true → ((y : Names × V) → In ys y → before x.0 y.0 ≡ true) → above x.0 (xs ++ ys) ≡ true
        first-is [] [] h g = refl
        first-is [] (y ∷ ys) h g = g y (inl refl)
        first-is (z ∷ xs) ys h g = h

  -- the rows from a place on do not come before it
  late : (q : Names) (rs : List (Names × V)) → ascending rs ≡ true → (y : Names × V) → In (drop (lead q rs) rs) y → In rs y × (before y.0 q ≡ false)
  late q [] up y i = absurd i
  late q (r ∷ rs) up y i = go (before r.0 q) refl (late q rs (tail-ascends r rs up) y) i where
    go : (t : Bool) → before r.0 q ≡ t → (In (drop (lead q rs) rs) y → In rs y × (before y.0 q ≡ false)) → In (drop (cond t (suc (lead q rs)) 0) (r ∷ rs)) y → In (r ∷ rs) y × (before y.0 q ≡ false)
    go true e more i = let d = more i in (inr d.0, d.1)
    go false e more i = (i, ⊎_elim (λ s. ap (λ z. before z.0 q) s ∙ e) behind i) where
      behind : In rs y → before y.0 q ≡ false
      behind j = by (before y.0 q) refl where
        by : (t : Bool) → before y.0 q ≡ t → before y.0 q ≡ false
        by true b = absurd (true≢false (sym (before-trans r.0 y.0 q (head_least r rs up y j) b) ∙ e))
        by false b = b

  module _ (n : Names × V) (new rs : List (Names × V)) (up : ascending rs ≡ true) (rise : ascending (n ∷ new) ≡ true) (below : (x : Names × V) → In (n ∷ new) x → under n.0 x.0 ≡ true) (apart : (y : Names × V) → In rs y → under n.0 y.0 ≡ false) where
    pub spliced-rises : ascending (spliced (n ∷ new) rs) ≡ true
    spliced-rises =
        splice_rises n new rs up
        ∙ ascending-append (n ∷ new) (drop (lead n.0 rs) rs) rise (ascending-drop (lead n.0 rs) rs up) ordered where
          ordered : (x y : Names × V) → In (n ∷ new) x → In (drop (lead n.0 rs) rs) y → before x.0 y.0 ≡ true
          ordered x y i j = go (before x.0 y.0) refl where
            l : In rs y × (before y.0 n.0 ≡ false)
            l = late n.0 rs up y j

            go : (t : Bool) → before x.0 y.0 ≡ t → before x.0 y.0 ≡ true
            go true e = e
            go false e =
                let u = between n.0 y.0 x.0 (not_before-le y.0 n.0 l.1) (not_before-le x.0 y.0 e) ((under-says n.0 x.0).0 (below x i)) in
                absurd (true≢false (sym ((under-says n.0 y.0).1 u) ∙ apart y l.0))
