-- The rows that are left on a walk. Assumes nothing.
use Rattle.std.proofs.Common.{◌≡◌, ℕ, Bool, true, false, cond, List, [], ◌∷◌, ◌++◌, is_some, Some, None, Option, sym, refl, ap, ◌∙◌, subst, inl, ⊎_elim}
use Rattle.std.proofs.lemmas.Bool.{true≢false, cond-true, cond-false, false_from_ne_true}
use Rattle.std.specs.List.{concat}
use Rattle.std.specs.Option.{option_map}
use Rattle.paths.specs.declared.Path.{Path}
use Rattle.paths.specs.Paths.{names}
use Rattle.trees.specs.declared.entry.Entry.{Entry}
use Rattle.rows.specs.Maps.{Names, before, first, is_at, is_after, at, ascending, path_after}
use Rattle.trees.specs.Entries.{Entries, Row}
use Rattle.listing.specs.Lines.{line, lines}
use Rattle.listing.specs.Walks.{from, from_at, texts, left}
use Rattle.rows.proofs.Orders.{same-is, is_same, not_before_self, not_before-same, before-trans}
use Rattle.rows.proofs.Firsts.{In, first_some, head_least, tail-ascends, at-holds}
use Rattle.trees.proofs.Closed.{tree_parts}

is_at-false : (x p : List (List ℕ)) (e : Entry) → before x p ≡ true → is_at p (x, e) ≡ false
is_at-false x p e b = false_from_ne_true (is_at p (x, e)) (λ h. not_before-same x p (same-is x p h) b)

is_after-false : (p : List (List ℕ)) (x : Row) → x.0 ≡ p → is_after p x ≡ false
is_after-false p x k = false_from_ne_true (is_after p x) (not_before-same p x.0 (sym k))

before-after-false : (p : List (List ℕ)) (x : Row) → before x.0 p ≡ true → is_after p x ≡ false
before-after-false p x b = false_from_ne_true (is_after p x) (λ h. not_before_self p (before-trans p x.0 p h b))

-- a row, and the rows after it
from_row : (rs : List Row) → ascending rs ≡ true → (p : List (List ℕ)) (e : Entry) → In rs (p, e) → from p rs ≡ (p, e) ∷ from_at (path_after rs p) rs
from_row [] a p e i = absurd i
from_row (r ∷ rs) a p e i =
    ⊎_elim (λ s. here s) (λ j. later j (from_row rs (tail-ascends r rs a) p e j)) i where
      after-here : (rs : List Row) → ascending (r ∷ rs) ≡ true → r.0 ≡ p → rs ≡ from_at (option_map (λ x. x.0) (first (is_after p) (r ∷ rs))) (r ∷ rs)
      after-here [] a k = sym (ap (λ o. from_at (option_map (λ x. x.0) o) (r ∷ [])) (cond-false (is_after p r) (Some r) None (is_after-false p r k)))
      after-here (y ∷ rs) a k =
          let b : before r.0 y.0 ≡ true = head_least r (y ∷ rs) a y (inl refl) in
          let f : first (is_after p) (r ∷ y ∷ rs) ≡ Some y = cond-false (is_after p r) (Some r) (first (is_after p) (y ∷ rs)) (is_after-false p r k) ∙ cond-true (is_after p y) (Some y) (first (is_after p) rs) (subst (λ z. before z y.0 ≡ true) k b) in
          sym (ap (λ o. from_at (option_map (λ x. x.0) o) (r ∷ y ∷ rs)) f
          ∙ cond-false (is_at y.0 r) (r ∷ y ∷ rs) (from y.0 (y ∷ rs)) (is_at-false r.0 y.0 r.1 b)
          ∙ cond-true (is_at y.0 y) (y ∷ rs) (from y.0 rs) (is_same y.0 y.0 refl))

      here : (p, e) ≡ r → from p (r ∷ rs) ≡ (p, e) ∷ from_at (path_after (r ∷ rs) p) (r ∷ rs)
      here s =
          let k : r.0 ≡ p = ap (λ z. z.0) (sym s) in
          cond-true (is_at p r) (r ∷ rs) (from p rs) (is_same r.0 p k) ∙ (λ j. sym s j ∷ after-here rs a k j)

      past : (o : Option Row) → first (is_after p) rs ≡ o → from_at (option_map (λ x. x.0) o) rs ≡ from_at (option_map (λ x. x.0) o) (r ∷ rs)
      past None f = refl
      past (Some y) f =
          let i = first_some (is_after p) rs y f in
          sym (cond-false (is_at y.0 r) (r ∷ rs) (from y.0 rs) (is_at-false r.0 y.0 r.1 (head_least r rs a y i.0)))

      later : In rs (p, e) → from p rs ≡ (p, e) ∷ from_at (path_after rs p) rs → from p (r ∷ rs) ≡ (p, e) ∷ from_at (path_after (r ∷ rs) p) (r ∷ rs)
      later j h =
          let b : before r.0 p ≡ true = head_least r rs a (p, e) j in
          let f : first (is_after p) (r ∷ rs) ≡ first (is_after p) rs = cond-false (is_after p r) (Some r) (first (is_after p) rs) (before-after-false p r b) in
          cond-false (is_at p r) (r ∷ rs) (from p rs) (is_at-false r.0 p r.1 b) ∙ h
          ∙ ap (λ z. (p, e) ∷ z) (past (first (is_after p) rs) refl ∙ sym (ap (λ o. from_at (option_map (λ x. x.0) o) (r ∷ rs)) f))

-- ---- the lines that are left

pub all_told : (rs : List Row) → concat (texts rs) ≡ lines rs
all_told [] = refl
all_told (r ∷ rs) = ap (λ z. line r.0 r.1 ++ z) (all_told rs)

from-none : (p : Names) (rs : List Row) → at rs p ≡ None → from p rs ≡ []
from-none p [] h = refl
from-none p (r ∷ rs) h = go (is_at p r) h (from-none p rs) where
  go : (t : Bool) → option_map (λ x. x.1) (cond t (Some r) (first (is_at p) rs)) ≡ None → (at rs p ≡ None → from p rs ≡ []) → cond t (r ∷ rs) (from p rs) ≡ []
  go true h more = absurd (true≢false (ap is_some h))
  go false h more = more h

module _ (en : Entries) (o : Option Path) (p : Path) (is : o ≡ Some p) where
  pub left-none : at en.rows (names p) ≡ None → left en o ≡ []
  left-none h = ap (left en) is ∙ ap texts (from-none (names p) en.rows h)

  pub left-some : (e : Entry) (next : Option Path) (l : List ℕ) → at en.rows (names p) ≡ Some e → option_map names next ≡ path_after en.rows (names p) → l ≡ line (names p) e → left en o ≡ l ∷ left en next
  left-some e next l h n s =
      let up = (tree_parts en.rows en.ok).0 in
      ap (left en) is ∙ ap texts (from_row en.rows up (names p) e (at-holds en.rows (names p) e h)) ∙ (λ i. sym s i ∷ texts (from_at (sym n i) en.rows))
