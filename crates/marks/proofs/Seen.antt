-- The child that is seen behind a name, from the layer's rows and the tree below. Assumes nothing.
use Rattle.std.proofs.Common.{◌≡◌, ℕ, Bool, true, false, cond, not, ◌&&◌, ◌||◌, List, is_some, Some, None, Option, sym, refl, ap, ◌∙◌, subst, ⊎_elim}
use Rattle.std.proofs.Math.Bool.{not-not}
use Rattle.std.proofs.lemmas.Bool.{both_ways, false_from_ne_true}
use Rattle.std.specs.Option.{option_map}
use Rattle.paths.specs.Names.{last_name}
use Rattle.rows.specs.Maps.{Names, before, at, child_path}
use Rattle.rows.proofs.Orders.{last_child}
use Rattle.rows.proofs.Least.{less, less-trans, child, child-order, Least, least_alike, least_bound, least-from, named, least-child, child-least}
use Rattle.trees.specs.Entries.{Row, is_tree}
use Rattle.marks.specs.declared.mark.Mark.{Mark}
use Rattle.marks.specs.declared.mark.Mark.TheVariants.{Whiteout}
use Rattle.marks.specs.Marks.{MarkRow, entry_of, stops, cut, unless, see, merged, layered}
use Rattle.marks.proofs.Cuts.{proper-child}
use Rattle.trees.proofs.Closed.{tree_parts}
use Rattle.marks.proofs.Merges.{at-merged, ascending-merged, layer_parts}
use Rattle.paths.proofs.Granted.{is_none, mapped_none, mapped_some}

shows : {V : Type 0} (b : Bool) (o : Option V) → is_some (unless (not b) o) ≡ (b && is_some o)
shows true o = refl
shows false o = refl

module _ (m : List MarkRow) (e : List Row) (lm : layered m ≡ true) (le : is_tree e ≡ true) (p : Names) (shown : Bool) (is : shown ≡ not (cut (at m) p || stops (at m p))) where
  -- ---- what is seen at the child of a name

  abbrev seen : List ℕ → Bool
  seen = named (merged m e) p

  abbrev marked : List ℕ → Bool
  marked = named m p

  abbrev lower : List ℕ → Bool
  lower k = shown && named e p k

  cut-child : (k : List ℕ) → cut (at m) (child p k) ≡ not shown
  cut-child k = proper-child (λ q. stops (at m q)) p k ∙ sym (not-not (cut (at m) p || stops (at m p))) ∙ ap not (sym is)

  at-child : (k : List ℕ) → at (merged m e) (child p k) ≡ see (at m (child p k)) (unless (not shown) (at e (child p k)))
  at-child k = at-merged m e (child p k) ∙ ap (λ b. see (at m (child p k)) (unless b (at e (child p k)))) (cut-child k)

  by_lower : (k : List ℕ) → marked k ≡ false → seen k ≡ lower k
  by_lower k n =
      ap is_some (at-child k ∙ ap (λ x. see x (unless (not shown) (at e (child p k)))) (is_none (at m (child p k)) n)) ∙ shows shown (at e (child p k))

  by_mark : (k : List ℕ) (x : Mark) → at m (child p k) ≡ Some x → seen k ≡ is_some (entry_of x)
  by_mark k x h = ap is_some (at-child k ∙ ap (λ z. see z (unless (not shown) (at e (child p k)))) h)

  module _ (a : List ℕ) where
    -- ---- the least names of the three

    abbrev low : Option Names
    low = cond shown (child_path e p a) None

    low-least : (o : Option (List ℕ)) × (low ≡ option_map (child p) o) × Least lower a o
    low-least = go shown (least-child e (tree_parts e le).0 p a) where
      go : (b : Bool) → (o : Option (List ℕ)) × (child_path e p a ≡ option_map (child p) o) × Least (named e p) a o → (o : Option (List ℕ)) × (cond b (child_path e p a) None ≡ option_map (child p) o) × Least (λ k. b && named e p k) a o
      go true d = d
      go false d = (None, refl, λ k l. refl)

    low-some : (l : Names) → low ≡ Some l → (j : List ℕ) × (l ≡ child p j) × Least lower a (Some j)
    low-some l h =
        let d = low-least in
        let n = mapped_some (child p) d.0 l (sym d.1 ∙ h) in
        (n.0, sym n.2, subst (Least lower a) n.1 d.2)

    row-some : (r : Names) → child_path m p a ≡ Some r → (n : List ℕ) × (r ≡ child p n) × Least marked a (Some n)
    row-some r h =
        let d = least-child m (layer_parts m lm).0 p a in
        let n = mapped_some (child p) d.0 r (sym d.1 ∙ h) in
        (n.0, sym n.2, subst (Least marked a) n.1 d.2)

    row-none : child_path m p a ≡ None → Least marked a None
    row-none h =
        let d = least-child m (layer_parts m lm).0 p a in
        subst (Least marked a) (mapped_none (child p) d.0 (sym d.1 ∙ h)) d.2

    seen-least : (o : Option (List ℕ)) → Least seen a o → child_path (merged m e) p a ≡ option_map (child p) o
    seen-least = child-least (merged m e) (ascending-merged m e (tree_parts e le).0) p a

    -- ---- what is seen

    -- no row of the layer: what the lower tree has
    pub seen_low : child_path m p a ≡ None → child_path (merged m e) p a ≡ cond shown (child_path e p a) None
    seen_low h =
        let d = low-least in
        seen-least d.0 (least_alike lower seen a d.0 (λ k l. by_lower k (row-none h k l)) d.2) ∙ sym d.1

    -- the lower tree's child, where it comes first
    pub seen-lower : (r l : Names) → child_path m p a ≡ Some r → cond shown (child_path e p a) None ≡ Some l → before l r ≡ true → child_path (merged m e) p a ≡ Some l
    seen-lower r l h g b =
        let x = row-some r h in
        let y = low-some l g in
        let u : less y.0 x.0 ≡ true = sym (child-order p y.0 x.0) ∙ ap (before (child p y.0)) (sym x.1) ∙ ap (λ z. before z r) (sym y.1) ∙ b in
        seen-least (Some y.0) (
          by_lower y.0 (x.2.2 y.0 y.2.1 u) ∙ y.2.0,
          y.2.1,
          λ k s t. by_lower k (x.2.2 k s (less-trans k y.0 x.0 t u)) ∙ y.2.2 k s t,
        ) ∙ ap Some (sym y.1)

    -- the layer's row comes first: no name before it is seen
    none_before : (r : Names) → ((l : Names) → cond shown (child_path e p a) None ≡ Some l → before l r ≡ false) → (n : List ℕ) → r ≡ child p n → Least marked a (Some n) → (k : List ℕ) → less a k ≡ true → less k n ≡ true → seen k ≡ false
    none_before r f n s x k l u = by_lower k (x.2 k l u) ∙ false_from_ne_true (lower k) (let d = low-least in late d.0 d.1 d.2) where
      late : (o : Option (List ℕ)) → low ≡ option_map (child p) o → Least lower a o → lower k ≡ true → ⊥
      late None g y t = both_ways (lower k) (y k l) t
      late (Some j) g y t =
          let b : less j n ≡ false = sym (child-order p j n) ∙ ap (before (child p j)) (sym s) ∙ f (child p j) g in
          ⊎_elim
          (λ q. both_ways (less j n) b (ap (λ z. less z n) q ∙ u))
          (λ q. both_ways (less j n) b (less-trans j k n q u))
          (least_bound lower a j k y l t)

    -- then it is what is seen, where its mark has an entry
    pub seen-row : (r : Names) → child_path m p a ≡ Some r → ((l : Names) → cond shown (child_path e p a) None ≡ Some l → before l r ≡ false) → (x : Mark) → at m r ≡ Some x → is_some (entry_of x) ≡ true → child_path (merged m e) p a ≡ Some r
    seen-row r h f x w v =
        let d = row-some r h in
        let n = d.0 in
        seen-least (Some n) (
          by_mark n x (ap (at m) (sym d.1) ∙ w) ∙ v,
          d.2.1,
          none_before r f n d.1 d.2,
        ) ∙ ap Some (sym d.1)

  -- and a whiteout is passed over
  pub seen_skip : (a : List ℕ) (r : Names) → child_path m p a ≡ Some r → ((l : Names) → cond shown (child_path e p a) None ≡ Some l → before l r ≡ false) → at m r ≡ Some Whiteout → child_path (merged m e) p a ≡ child_path (merged m e) p (last_name r)
  seen_skip a r h f w =
      let d = row-some a r h in
      let n = d.0 in
      let y = least-child (merged m e) (ascending-merged m e (tree_parts e le).0) p n in
      seen-least a y.0 (least-from seen a n y.0 d.2.1 (by_mark n Whiteout (ap (at m) (sym d.1) ∙ w)) (none_before a r f n d.1 d.2) y.2)
      ∙ sym y.1
      ∙ ap (child_path (merged m e) p) (sym (ap last_name d.1 ∙ last_child p n))
