-- The choice between a row and a child of the tree below. Assumes nothing.
use Rattle.std.proofs.Common.{◌≡◌, ℕ, Bool, true, false, cond, not, ◌||◌, List, is_some, Some, None, Option, MatchOption, Bor, sym, refl, ap, ◌∙◌}
use Rattle.std.proofs.lemmas.Bool.{true≢false}
use Rattle.std.specs.Option.{option_map, option_copied}
use Rattle.paths.specs.declared.Path.{Path}
use Rattle.paths.specs.Paths.{names}
use Rattle.paths.specs.Names.{last_name}
use Rattle.trees.specs.Entries.{Row, is_tree}
use Rattle.rows.specs.Maps.{Names, before, first, at, has, ascending, is_child, child_path}
use Rattle.rows.proofs.Firsts.{first_some, in-there}
use Rattle.marks.specs.declared.mark.Mark.{Mark}
use Rattle.marks.specs.declared.mark.Mark.TheVariants.{Whiteout, File, Dir, Opaque}
use Rattle.marks.specs.Marks.{MarkRow, entry_of, cut, stops, merged, layered}
use Rattle.marks.proofs.Merges.{layer_parts}
use Rattle.marks.proofs.Seen.{seen_low, seen-lower, seen-row, seen_skip}

-- there is a path, and it comes before r
abbrev leads : Option Names → Names → Bool
leads None r = false
leads (Some l) r = before l r

-- a mark that sets no entry
abbrev hidden : Option Mark → Bool
hidden None = false
hidden (Some x) = not (is_some (entry_of x))

-- the child of the tree below, which is asked where it is seen
pub low_is : {T : Type 0} {P : Bor T → Type 0} (lower : Option (Bor T)) (shown : Bool) (t : T) (low : Option Path) (child : T → Option Names) → option_copied lower ≡ cond shown (Some t) None → MatchOption lower (low ≡ None) P → ((x : Bor T) → P x → option_map names low ≡ child x.now) → option_map names low ≡ cond shown (child t) None
low_is None true t low child h k f = absurd (true≢false (sym (ap is_some h)))
low_is None false t low child h k f = ap (option_map names) k
low_is (Some x) true t low child h k f = let s : x.now ≡ t = cc in f x k ∙ ap child s
low_is (Some x) false t low child h k f = absurd (true≢false (ap is_some h))

pub leads_is : {P : Path → Type 0} (low : Option Path) (r : Names) (b : Bool) → MatchOption low (b ≡ false) P → ((x : Path) → P x → b ≡ before (names x) r) → b ≡ leads (option_map names low) r
leads_is None r b h f = h
leads_is (Some x) r b h f = f x h

leads-some : (o : Option Names) (r : Names) → leads o r ≡ true → (l : Names) × (o ≡ Some l) × (before l r ≡ true)
leads-some None r h = absurd (true≢false (sym h))
leads-some (Some l) r h = (l, refl, h)

leads-not : (o : Option Names) (r : Names) → leads o r ≡ false → (l : Names) → o ≡ Some l → before l r ≡ false
leads-not None r h l e = absurd (true≢false (sym (ap is_some e)))
leads-not (Some k) r h l e = let s : k ≡ l = cc in sym (ap (λ z. before z r) s) ∙ h

hidden-is : (o : Option Mark) → hidden o ≡ true → o ≡ Some Whiteout
hidden-is None h = absurd (true≢false (sym h))
hidden-is (Some Whiteout) h = refl
hidden-is (Some (File f)) h = absurd (true≢false (sym h))
hidden-is (Some (Dir d)) h = absurd (true≢false (sym h))
hidden-is (Some (Opaque d)) h = absurd (true≢false (sym h))

hidden-not : (o : Option Mark) → hidden o ≡ false → is_some o ≡ true → (x : Mark) × (o ≡ Some x) × (is_some (entry_of x) ≡ true)
hidden-not None h s = absurd (true≢false (sym s))
hidden-not (Some Whiteout) h s = absurd (true≢false h)
hidden-not (Some (File f)) h s = (File f, refl, refl)
hidden-not (Some (Dir d)) h s = (Dir d, refl, refl)
hidden-not (Some (Opaque d)) h s = (Opaque d, refl, refl)

-- the child that rows have has a row
child-has : {V : Type 0} (rs : List (Names × V)) (p : Names) (a : List ℕ) (r : Names) → ascending rs ≡ true → child_path rs p a ≡ Some r → has rs r ≡ true
child-has {V} rs p a r up h = go (first (is_child p a) rs) refl h where
  go : (o : Option (Names × V)) → first (is_child p a) rs ≡ o → option_map (λ (x : Names × V). x.0) o ≡ Some r → has rs r ≡ true
  go None f k = absurd (true≢false (sym (ap is_some k)))
  go (Some x) f k =
      let s : x.0 ≡ r = cc in
      sym (ap (has rs) s) ∙ in-there rs up x (first_some (is_child p a) rs x f).0

-- ---- which of the two it is

module _ (m : List MarkRow) (e : List Row) (lm : layered m ≡ true) (le : is_tree e ≡ true) (p : Names) (a : List ℕ) (low : Option Path) (is : option_map names low ≡ cond (not (cut (at m) p || stops (at m p))) (child_path e p a) None) where
  abbrev shown : Bool
  shown = not (cut (at m) p || stops (at m p))

  -- no row: the child of the tree below
  pub below_only : child_path m p a ≡ None → option_map names low ≡ child_path (merged m e) p a
  below_only h = is ∙ sym (seen_low m e lm le p shown refl a h)

  module _ (r : Names) (h : child_path m p a ≡ Some r) (b : Bool) (first : b ≡ leads (option_map names low) r) where
    pub below_first : b ≡ true → option_map names low ≡ child_path (merged m e) p a
    below_first t =
        let l = leads-some (option_map names low) r (sym first ∙ t) in
        l.1 ∙ sym (seen-lower m e lm le p shown refl a r l.0 h (sym is ∙ l.1) l.2)

    late : b ≡ false → (l : Names) → cond shown (child_path e p a) None ≡ Some l → before l r ≡ false
    late f l k = leads-not (option_map names low) r (sym first ∙ f) l (is ∙ k)

    -- the row comes first, and its mark decides
    pub row_hidden : b ≡ false → (o : Option Mark) → o ≡ at m r → hidden o ≡ true → child_path (merged m e) p (last_name r) ≡ child_path (merged m e) p a
    row_hidden f o k z = sym (seen_skip m e lm le p shown refl a r h (late f) (sym k ∙ hidden-is o z))

    pub row_first : b ≡ false → (o : Option Mark) → o ≡ at m r → hidden o ≡ false → Some r ≡ child_path (merged m e) p a
    row_first f o k z =
        let x = hidden-not o z (ap is_some k ∙ child-has m p a r (layer_parts m lm).0 h) in
        sym (seen-row m e lm le p shown refl a r h (late f) x.0 (sym k ∙ x.1) x.2)
