-- Rows in two parts, and one row more behind the others. Assumes nothing.
use Rattle.std.proofs.Common.{◌≡◌, true, ◌⊎◌, List, [], ◌∷◌, ◌++◌, refl, inl, inr, ⊎_elim}
use Rattle.std.proofs.lemmas.Bool.{and_parts, and_from}
use Rattle.rows.specs.Maps.{Names, before, ascending, rises}
use Rattle.rows.proofs.Firsts.{In, tail-ascends}

module _ {V : Type 0} where
  pub in_right : (done rest : List (Names × V)) (r : Names × V) → In rest r → In (done ++ rest) r
  in_right [] rest r i = i
  in_right (x ∷ done) rest r i = inr (in_right done rest r i)

  pub in_parts : (done rest : List (Names × V)) (r : Names × V) → In (done ++ rest) r → In done r ⊎ In rest r
  in_parts [] rest r i = inr i
  in_parts (x ∷ done) rest r i =
      ⊎_elim (λ s. inl (inl s)) (λ j. ⊎_elim (λ k. inl (inr k)) (λ k. inr k) (in_parts done rest r j)) i

  pub ascends_right : (done rest : List (Names × V)) → ascending (done ++ rest) ≡ true → ascending rest ≡ true
  ascends_right [] rest a = a
  ascends_right (x ∷ done) rest a = ascends_right done rest (tail-ascends x (done ++ rest) a)

  pub ascends-left : (done rest : List (Names × V)) → ascending (done ++ rest) ≡ true → ascending done ≡ true
  ascends-left [] rest a = refl
  ascends-left (x ∷ []) rest a = refl
  ascends-left (x ∷ y ∷ done) rest a =
      let p = and_parts (before x.0 y.0) (ascending (y ∷ (done ++ rest))) a in
      and_from (before x.0 y.0) (ascending (y ∷ done)) p.0 (ascends-left (y ∷ done) rest p.1)

  pub rising : (done : List (Names × V)) (r : Names × V) (rest : List (Names × V)) → ascending (done ++ r ∷ rest) ≡ true → rises done r.0 ≡ true
  rising [] r rest a = refl
  rising (x ∷ []) r rest a = (and_parts (before x.0 r.0) (ascending (r ∷ rest)) a).0
  rising (x ∷ y ∷ done) r rest a = rising (y ∷ done) r rest (tail-ascends x (y ∷ (done ++ r ∷ rest)) a)

  pub ascends_more : (rows : List (Names × V)) (r : Names × V) → ascending rows ≡ true → rises rows r.0 ≡ true → ascending (rows ++ r ∷ []) ≡ true
  ascends_more [] r a h = refl
  ascends_more (x ∷ []) r a h = and_from (before x.0 r.0) true h refl
  ascends_more (x ∷ y ∷ rs) r a h =
      let p = and_parts (before x.0 y.0) (ascending (y ∷ rs)) a in
      and_from (before x.0 y.0) (ascending (y ∷ (rs ++ r ∷ []))) p.0 (ascends_more (y ∷ rs) r p.1 h)

  pub in_left : (rows more : List (Names × V)) (x : Names × V) → In rows x → In (rows ++ more) x
  in_left [] more x i = absurd i
  in_left (y ∷ rows) more x i = ⊎_elim (λ s. inl s) (λ j. inr (in_left rows more x j)) i
