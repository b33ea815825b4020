-- Rows in which one path got a value. Assumes nothing.
use Rattle.std.proofs.Common.{◌≡◌, ℕ, suc, ◌+◌, ◌≤◌, Bool, true, false, cond, ◌&&◌, ltb, leb, List, [], ◌∷◌, ◌++◌, length, take, drop, is_some, Some, None, Option, Ordering, Less, Equal, Greater, sym, refl, ap, ◌∙◌, subst, ⊎_elim, arith}
use Rattle.std.proofs.lemmas.List.{length-map}
use Rattle.std.proofs.Math.Bool.{and-true}
use Rattle.std.proofs.lemmas.Bool.{true≢false, or_parts, cond-true, cond-false}
use Rattle.std.specs.Cmp.{nat_cmp_total}
use Rattle.std.specs.Cmp.Lexicographic.{lists_total}
use Rattle.std.specs.Option.{option_map, option_or}
use Rattle.std.specs.Ordering.{is_lt, is_eq, ordering_reverse}
use Rattle.paths.specs.Order.{by_names}
use Rattle.rows.specs.Maps.{Names, at, has, ascending, only, replaced}
use Rattle.rows.specs.Builds.{same, among, put_by, add, keys, set_at}
use Rattle.rows.specs.Positions.{lead}
use Rattle.rows.specs.Tables.{spliced, splices}
use Rattle.rows.proofs.Built.{told, at-cons, among-has, at_set, ascending_set, ascends-add, ascends-keys, keys_ascend, same_rows, Ascends}
use Rattle.rows.proofs.Changed.{at-replaced, ascending-replaced, keys-replaced, at-spliced, length-spliced}
use Rattle.rows.proofs.Unders.{same_swap}

module _ {V : Type 0} where
  -- ---- where the path has a row

  module _ (rs : List (Names × V)) (p : Names) (v : V) (up : ascending rs ≡ true) where
    pub set_replaced : has rs p ≡ true → set_at rs p (Some v) ≡ replaced rs p v
    set_replaced h = same_rows (set_at rs p (Some v)) (replaced rs p v) (ascending_set rs p (Some v) up) (ascending-replaced p v rs ∙ up) alike where
      there : (o : Option V) → is_some o ≡ true → ◌≡◌ {A = Option V} (Some v) (option_map (λ _. v) o)
      there None k = absurd (true≢false (sym k))
      there (Some w) k = refl

      alike : (q : Names) → at (set_at rs p (Some v)) q ≡ at (replaced rs p v) q
      alike q =
          at_set rs p (Some v) q
          ∙ ⊎_elim
          (λ y. cond-true (same q p) (Some v) (at rs q) y.1 ∙ there (at rs q) (ap (has rs) y.0 ∙ h) ∙ sym (cond-true (same p q) (option_map (λ _. v) (at rs q)) (at rs q) (same_swap p q ∙ y.1)))
          (λ n. cond-false (same q p) (Some v) (at rs q) n ∙ sym (cond-false (same p q) (option_map (λ _. v) (at rs q)) (at rs q) (same_swap p q ∙ n)))
          (told q p)
          ∙ sym (at-replaced p v rs q)

  length-replaced : (rs : List (Names × V)) (p : Names) (v : V) → length (replaced rs p v) ≡ length rs
  length-replaced rs p v =
      sym (length-map (replaced rs p v) (λ r. r.0)) ∙ ap length (keys-replaced p v rs) ∙ length-map rs (λ r. r.0)

  -- ---- where it has none

  module _ (p : Names) (v : V) where
    keys-spliced : (rs : List (Names × V)) → among (keys rs) p ≡ false → keys (spliced ((p, v) ∷ []) rs) ≡ add (keys rs) p
    keys-spliced [] h = refl
    keys-spliced (r ∷ rs) h =
        let o = or_parts (same p r.0) (among (keys rs) p) h in
        let flip = (lists_total (lists_total nat_cmp_total)).antisymm r.0 p in
        let K : Ordering → List Names = λ k. keys (take (cond (is_lt k) (suc (lead p rs)) 0) (r ∷ rs) ++ (((p, v) ∷ []) ++ drop (cond (is_lt k) (suc (lead p rs)) 0) (r ∷ rs))) in
        ap K flip ∙ go (by_names p r.0) (sym (ap is_eq flip) ∙ o.0) (keys-spliced rs o.1) where
          go : (k : Ordering) → is_eq (ordering_reverse k) ≡ false → keys (spliced ((p, v) ∷ []) rs) ≡ add (keys rs) p
              → keys (take (cond (is_lt (ordering_reverse k)) (suc (lead p rs)) 0) (r ∷ rs) ++ (((p, v) ∷ []) ++ drop (cond (is_lt (ordering_reverse k)) (suc (lead p rs)) 0) (r ∷ rs))) ≡ put_by k p r.0 (keys rs) (add (keys rs) p)
          go Less e more = refl
          go Equal e more = absurd (true≢false e)
          go Greater e more = ap (λ ks. r.0 ∷ ks) more

    module _ (rs : List (Names × V)) (up : ascending rs ≡ true) (none : has rs p ≡ false) where
      one_rises : ascending (spliced ((p, v) ∷ []) rs) ≡ true
      one_rises =
          keys_ascend (spliced ((p, v) ∷ []) rs) (subst Ascends (sym (keys-spliced rs (sym (among-has rs p) ∙ none))) (ascends-add (keys rs) p (ascends-keys rs up)))

      -- they can, where there is room for one row more
      pub one_splices : (room : ℕ) → splices room ((p, v) ∷ []) rs ≡ ltb (length rs) room
      one_splices room = ap (λ b. leb (length rs + 1) room && b) one_rises ∙ and-true (leb (length rs + 1) room) ∙ grind arith

      pub set_spliced : set_at rs p (Some v) ≡ spliced ((p, v) ∷ []) rs
      set_spliced = same_rows (set_at rs p (Some v)) (spliced ((p, v) ∷ []) rs) (ascending_set rs p (Some v) up) one_rises alike where
        alike : (q : Names) → at (set_at rs p (Some v)) q ≡ at (spliced ((p, v) ∷ []) rs) q
        alike q =
            at_set rs p (Some v) q
            ∙ go (same q p)
            ∙ ap (λ o. option_or o (at rs q)) (sym (at-cons (p, v) [] q))
            ∙ sym (at-spliced ((p, v) ∷ []) rs q one_rises) where
              go : (t : Bool) → cond t (Some v) (at rs q) ≡ option_or (cond t (Some v) None) (at rs q)
              go true = refl
              go false = refl

  -- ---- how many rows there are then

  pub length_set : (rs : List (Names × V)) (p : Names) (v : V) → ascending rs ≡ true → length (set_at rs p (Some v)) ≡ length rs + cond (has rs p) 0 1
  length_set rs p v up = go (has rs p) refl where
    go : (t : Bool) → has rs p ≡ t → length (set_at rs p (Some v)) ≡ length rs + cond t 0 1
    go true e = ap length (set_replaced rs p v up e) ∙ length-replaced rs p v ∙ omega arith
    go false e = ap length (set_spliced p v rs up e) ∙ length-spliced ((p, v) ∷ []) rs

  pub length-only : (t : Names → Bool) (rs : List (Names × V)) → length (only t rs) ≤ length rs
  length-only t [] = omega arith
  length-only t (r ∷ rs) = go (t r.0) (length-only t rs) where
    go : (b : Bool) → length (only t rs) ≤ length rs → length (cond b (r ∷ only t rs) (only t rs)) ≤ suc (length rs)
    go true h = omega arith
    go false h = omega arith
