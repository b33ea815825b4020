-- Marks laid over rows by a join: what is there at each path, and that each row keeps its parent. Assumes nothing.
use Rattle.std.proofs.Common.{◌≡◌, Bool, true, false, List, [], ◌∷◌, is_some, Some, None, Option, sym, refl, ap, ◌∙◌}
use Rattle.std.proofs.lemmas.Bool.{true≢false, or_parts}
use Rattle.paths.specs.Names.{parent, last_name}
use Rattle.rows.specs.Maps.{Names, at, ascending}
use Rattle.rows.specs.Builds.{keys, build, union}
use Rattle.rows.proofs.Orders.{as_child}
use Rattle.rows.proofs.Built.{at_joined, ascending-build, ascends-union, ascends-keys}
use Rattle.trees.specs.Entries.{grown}
use Rattle.trees.proofs.Grown.{Sound, sound-at}
use Rattle.marks.specs.declared.mark.Mark.{Mark}
use Rattle.marks.specs.Marks.{MarkRow, stops, marks_dir, ranged, cut, unless, laid, sound}
use Rattle.marks.proofs.Cuts.{proper-child}

pub none_either : {V : Type 0} (c : Bool) → ◌≡◌ {A = Option V} (unless c None) None
none_either true = refl
none_either false = refl

unless-some : {V : Type 0} (c : Bool) (y : Option V) (v : V) → unless c y ≡ Some v → (c ≡ false) × (y ≡ Some v)
unless-some true y v h = absurd (true≢false (sym (ap is_some h)))
unless-some false y v h = (refl, h)

-- what is asked of a join of marks with what lies below them
pub record Joins {V : Type 0} (join : Option Mark → Option V → Option V) (passes : V → Bool) (dir : Option V → Bool) : Type 0 where
  -- without a mark, what lies below
  pub none : (y : Option V) → join None y ≡ y
  -- what a mark sets passes
  pub sets : (x : Mark) (y : Option V) (v : V) → ranged x ≡ true → join (Some x) y ≡ Some v → passes v ≡ true
  -- a mark of a directory makes one
  pub upper : (x : Option Mark) (y : Option V) → marks_dir x ≡ true → dir (join x y) ≡ true
  -- and a directory below stays one where no mark stops
  pub lower : (x : Option Mark) (y : Option V) → stops x ≡ false → dir y ≡ true → dir (join x y) ≡ true

module _ {V : Type 0} (join : Option Mark → Option V → Option V) where
  abbrev pub lay : List MarkRow → List (Names × V) → List (Names × V)
  lay m e = build (laid join (at m) (at e)) (union (keys m) (keys e))

  pub ascending-lay : (m : List MarkRow) (e : List (Names × V)) → ascending e ≡ true → ascending (lay m e) ≡ true
  ascending-lay m e up = ascending-build (laid join (at m) (at e)) (union (keys m) (keys e)) (ascends-union (keys m) (keys e) (ascends-keys e up))

  module _ (passes : V → Bool) (dir : Option V → Bool) (j : Joins join passes dir) where
    pub at-lay : (m : List MarkRow) (e : List (Names × V)) (q : Names) → at (lay m e) q ≡ laid join (at m) (at e) q
    at-lay m e q = at_joined (λ p x y. join x (unless (cut (at m) p) y)) m e q (j.none (unless (cut (at m) q) None) ∙ none_either (cut (at m) q))

    module _ (m : List MarkRow) (e : List (Names × V)) (lm : sound m m ≡ true) (le : grown passes dir e e ≡ true) where
      -- no mark above a path stops, so its parent below is still a directory
      lower-parent : (p : Names) → at m p ≡ None → cut (at m) p ≡ false → dir (at e (parent p)) ≡ true → dir (laid join (at m) (at e) (parent p)) ≡ true
      lower-parent [] n c d = ap (λ x. dir (join x (at e []))) n ∙ ap dir (j.none (at e [])) ∙ d
      lower-parent (k ∷ p) n c d =
          let q = parent (k ∷ p) in
          let f = or_parts (cut (at m) q) (stops (at m q)) (sym (proper-child (λ r. stops (at m r)) q (last_name (k ∷ p))) ∙ (sym (ap (cut (at m)) (as_child k p)) ∙ c)) in
          j.lower (at m q) (unless (cut (at m) q) (at e q)) f.1 (ap (λ b. dir (unless b (at e q))) f.0 ∙ d)

      pub lay-sound : (p : Names) (v : V) → at (lay m e) p ≡ Some v → Sound passes dir (lay m e) (p, v)
      lay-sound p v h = go (at m p) refl (sym (at-lay m e p) ∙ h) where
        go : (x : Option Mark) → at m p ≡ x → join x (unless (cut (at m) p) (at e p)) ≡ Some v → Sound passes dir (lay m e) (p, v)
        go None n s =
            let u = unless-some (cut (at m) p) (at e p) v (sym (j.none (unless (cut (at m) p) (at e p))) ∙ s) in
            let d = sound-at passes dir e le p v u.1 in
            record {
              good = d.good;
              ranged = d.ranged;
              under = ap dir (at-lay m e (parent p)) ∙ lower-parent p n u.0 d.under;
            }
        go (Some x) n s =
            let d = sound-at ranged marks_dir m lm p x n in
            record {
              good = d.good;
              ranged = j.sets x (unless (cut (at m) p) (at e p)) v d.ranged s;
              under = ap dir (at-lay m e (parent p)) ∙ j.upper (at m (parent p)) (unless (cut (at m) (parent p)) (at e (parent p))) d.under;
            }
