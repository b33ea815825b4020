-- The first child behind a name is the least. Assumes nothing.
use Rattle.std.proofs.Common.{◌≡◌, ℕ, suc, Bool, true, false, cond, not, ◌⊎◌, List, [], ◌∷◌, ◌++◌, drop, Some, None, Option, slice_get, MatchOption, length, ◌<◌, Ordering, Less, Equal, Greater, sym, refl, ap, ◌∙◌, subst, ⊎_elim, append-nil}
use Rattle.std.proofs.lemmas.Bool.{true≢false, both_ways, and_parts, and_from, not-true, not_from_false, false_from_ne_true}
use Rattle.std.specs.Cmp.{nat_cmp_total}
use Rattle.std.specs.Cmp.Lexicographic.{lists_total}
use Rattle.std.specs.Option.{option_map}
use Rattle.std.specs.Ordering.{is_lt, is_eq, is_le, ordering_reverse, ordering_then, eq_by_cmp}
use Rattle.std.specs.Bool.{then_some}
use Rattle.std.specs.Option.{option_eq}
use Rattle.paths.specs.declared.Path.{Path}
use Rattle.paths.specs.Paths.{names, order}
use Rattle.paths.specs.Names.{parent, last_name, Under}
use Rattle.paths.specs.Order.{by_bytes, by_names}
use Rattle.paths.proofs.Laws.{itself, between}
use Rattle.rows.specs.declared.row.Row.{Row}
use Rattle.rows.specs.Maps.{Names, before, first, ascending, rooted, has, is_child, child_path}
use Rattle.rows.specs.Rows.{rows_of}
use Rattle.rows.specs.Positions.{behind, lead, child_head, child_at}
use Rattle.rows.proofs.Leads.{is_ahead, asked-at, not_ahead}
use Rattle.rows.proofs.Orders.{before-le, not_before-same, not_both, same-is, is_same, shared, parent-child, as_child}
use Rattle.rows.proofs.Least.{is_child_of}
use Rattle.rows.proofs.Firsts.{In, first_some, first-none, first-least, first-is, first_no, there, at-holds, in-there, child-there}
use Rattle.rows.proofs.Places.{Clean, clean_path, clean_at, not_before-le, before_then_le, under-place, self_place}

over : (k : Ordering) → is_le k ≡ false → is_lt (ordering_reverse k) ≡ true
over Less h = absurd (true≢false h)
over Equal h = absurd (true≢false h)
over Greater h = refl

under : (k : Ordering) → is_lt k ≡ true → is_le (ordering_reverse k) ≡ false
under Less h = refl
under Equal h = absurd (true≢false (sym h))
under Greater h = absurd (true≢false (sym h))

root_first : (p : Names) (n : List ℕ) → before [] (p ++ n ∷ []) ≡ true
root_first [] n = refl
root_first (m ∷ p) n = refl

-- a path with the parent p that is not the root
child_of : (z p : Names) → parent z ≡ p → (z ≡ [] → ⊥) → z ≡ p ++ last_name z ∷ []
child_of [] p e n = absurd (n refl)
child_of (m ∷ z) p e n = as_child m z ∙ ap (λ y. y ++ last_name (m ∷ z) ∷ []) e

module _ {V : Type 0} where
  clean-rows : (rs : List (Row V)) (x : Names × V) → In (rows_of rs) x → Clean x.0
  clean-rows [] x i = absurd i
  clean-rows (r ∷ rs) x i = ⊎_elim (λ s. subst (λ z. Clean z.0) (sym s) (clean_path r.path)) (clean-rows rs x) i

  abbrev heading : Names → Option (Names × V) → Option Names
  heading p None = None
  heading p (Some r) = cond (is_eq (by_names (parent r.0) p)) (Some r.0) None

  abbrev not_before : Names → Names × V → Bool
  not_before q r = not (before r.0 q)

  head_first : (p q : Names) (rs : List (Names × V)) → child_head p (drop (lead q rs) rs) ≡ heading p (first (not_before q) rs)
  head_first p q [] = refl
  head_first p q (r ∷ rs) = go (before r.0 q) (head_first p q rs) where
    go : (t : Bool) → child_head p (drop (lead q rs) rs) ≡ heading p (first (not_before q) rs) → child_head p (drop (cond t (suc (lead q rs)) 0) (r ∷ rs)) ≡ heading p (cond (not t) (Some r) (first (not_before q) rs))
    go true more = more
    go false more = refl

  module _ (rs : List (Names × V)) (up : ascending rs ≡ true) (c : rooted rs rs ≡ true) (clean : (x : Names × V) → In rs x → Clean x.0) (p : Names) (a : List ℕ) where
    -- a child with a greater name does not come before the place
    child_late : (x : Names × V) → In rs x → is_child p a x ≡ true → not_before (p ++ behind a ∷ []) x ≡ true
    child_late x i t =
        let d = is_child_of p a x t in
        let n = clean_at p (last_name x.0) [] (subst Clean d.0 (clean x i)) in
        not_from_false (before x.0 (p ++ behind a ∷ [])) (ap (λ z. before z (p ++ behind a ∷ [])) d.0 ∙ under-place p a (last_name x.0) [] n ∙ ap is_le ((lists_total nat_cmp_total).antisymm (last_name x.0) a) ∙ under (by_bytes a (last_name x.0)) d.1)

    none_late : first (not_before (p ++ behind a ∷ [])) rs ≡ None → first (is_child p a) rs ≡ None
    none_late f = first_no (is_child p a) rs no_child where
      no_child : (x : Names × V) → In rs x → is_child p a x ≡ false
      no_child x i = false_from_ne_true (is_child p a x) (λ e. both_ways (not_before (p ++ behind a ∷ []) x) (first-none (not_before (p ++ behind a ∷ [])) rs f x i) (child_late x i e))

    module _ (r : Names × V) (f : first (not_before (p ++ behind a ∷ [])) rs ≡ Some r) where
      inside : In rs r
      inside = (first_some (not_before (p ++ behind a ∷ [])) rs r f).0

      late : before r.0 (p ++ behind a ∷ []) ≡ false
      late = not-true (before r.0 (p ++ behind a ∷ [])) (first_some (not_before (p ++ behind a ∷ [])) rs r f).1

      -- rows that do not come before the place come from r on
      from_on : (x : Names × V) → In rs x → not_before (p ++ behind a ∷ []) x ≡ true → (x ≡ r) ⊎ (before r.0 x.0 ≡ true)
      from_on x i t = first-least (not_before (p ++ behind a ∷ [])) rs up r x f i t

      not_root : r.0 ≡ [] → ⊥
      not_root e = both_ways (before r.0 (p ++ behind a ∷ [])) late (ap (λ z. before z (p ++ behind a ∷ [])) e ∙ root_first p (behind a))

      here : is_eq (by_names (parent r.0) p) ≡ true → first (is_child p a) rs ≡ Some r
      here t = first-is (is_child p a) rs up r inside passes low where
        form : r.0 ≡ p ++ last_name r.0 ∷ []
        form = child_of r.0 p (same-is (parent r.0) p t) not_root

        above : is_le (by_bytes (last_name r.0) a) ≡ false
        above = sym (under-place p a (last_name r.0) [] (clean_at p (last_name r.0) [] (subst Clean form (clean r inside)))) ∙ sym (ap (λ z. before z (p ++ behind a ∷ [])) form) ∙ late

        passes : is_child p a r ≡ true
        passes = and_from (is_eq (by_names (parent r.0) p)) (is_lt (by_bytes a (last_name r.0))) t (ap is_lt ((lists_total nat_cmp_total).antisymm a (last_name r.0)) ∙ over (by_bytes (last_name r.0) a) above)

        low : (x : Names × V) → In rs x → before x.0 r.0 ≡ true → is_child p a x ≡ false
        low x i b = false_from_ne_true (is_child p a x) (λ e. ⊎_elim (λ s. not_before-same x.0 r.0 (ap (λ z. z.0) s) b) (λ l. not_both x.0 r.0 b l) (from_on x i (child_late x i e)))

      -- a row deeper than a child of p has that child before it
      deeper : (m o : List ℕ) (ms : Names) → r.0 ≡ p ++ m ∷ o ∷ ms → ⊥
      deeper m o ms e =
          let t = there rs (p ++ m ∷ []) (child-there rs c m (o ∷ ms) p (subst (λ z. has rs z ≡ true) e (in-there rs up r inside))) in
          let i = at-holds rs (p ++ m ∷ []) t.0 t.1 in
          let n = clean_at p m (o ∷ ms) (subst Clean e (clean r inside)) in
          let b : before (p ++ m ∷ []) (p ++ behind a ∷ []) ≡ false = under-place p a m [] n ∙ sym (under-place p a m (o ∷ ms) n) ∙ sym (ap (λ z. before z (p ++ behind a ∷ [])) e) ∙ late in
          let l : before (p ++ m ∷ []) r.0 ≡ true = ap (before (p ++ m ∷ [])) e ∙ ap is_lt (shared p (m ∷ []) (m ∷ o ∷ ms)) ∙ ap (λ k. is_lt (ordering_then k Less)) (itself (lists_total nat_cmp_total) m) in
          ⊎_elim (λ s. not_before-same (p ++ m ∷ []) r.0 (ap (λ z. z.0) s) l) (λ g. not_both (p ++ m ∷ []) r.0 l g) (from_on (p ++ m ∷ [], t.0) i (not_from_false (before (p ++ m ∷ []) (p ++ behind a ∷ [])) b))

      gone : is_eq (by_names (parent r.0) p) ≡ false → first (is_child p a) rs ≡ None
      gone t = first_no (is_child p a) rs no_child where
        no_under : Under p r.0 → ⊥
        no_under u = go u.0 u.1 where
          go : (rest : Names) → r.0 ≡ p ++ rest → ⊥
          go [] e = both_ways (before r.0 (p ++ behind a ∷ [])) late (ap (λ z. before z (p ++ behind a ∷ [])) (e ∙ append-nil p) ∙ self_place p a)
          go (m ∷ []) e = both_ways (is_eq (by_names (parent r.0) p)) t (is_same (parent r.0) p (ap parent e ∙ parent-child p m))
          go (m ∷ o ∷ ms) e = deeper m o ms e

        no_child : (x : Names × V) → In rs x → is_child p a x ≡ false
        no_child x i = false_from_ne_true (is_child p a x) no where
          after : is_child p a x ≡ true → before r.0 x.0 ≡ true → ⊥
          after e l =
              let d = is_child_of p a x e in
              let lo = before-le p r.0 (before_then_le p (p ++ behind a ∷ []) r.0 (self_place p a) (not_before-le r.0 (p ++ behind a ∷ []) late)) in
              no_under (between p r.0 x.0 lo (before-le r.0 x.0 l) (last_name x.0 ∷ [], d.0))

          no : is_child p a x ≡ true → ⊥
          no e =
              ⊎_elim (λ s. both_ways (is_eq (by_names (parent r.0) p)) t (ap (λ z. is_eq (by_names (parent z.0) p)) (sym s) ∙ (and_parts (is_eq (by_names (parent x.0) p)) (is_lt (by_bytes a (last_name x.0))) e).0)) (after e) (from_on x i (child_late x i e))

    least : child_at rs p a ≡ child_path rs p a
    least = head_first p (p ++ behind a ∷ []) rs ∙ go (first (not_before (p ++ behind a ∷ [])) rs) refl where
      go : (o : Option (Names × V)) → first (not_before (p ++ behind a ∷ [])) rs ≡ o → heading p o ≡ option_map (λ r. r.0) (first (is_child p a) rs)
      go None f = sym (ap (option_map (λ r. r.0)) (none_late f))
      go (Some r) f = by (is_eq (by_names (parent r.0) p)) refl where
        by : (t : Bool) → is_eq (by_names (parent r.0) p) ≡ t → cond t (Some r.0) None ≡ option_map (λ r. r.0) (first (is_child p a) rs)
        by true e = sym (ap (option_map (λ r. r.0)) (here r f e))
        by false e = sym (ap (option_map (λ r. r.0)) (gone r f e))

  pub least-child : (rs : List (Row V)) → ascending (rows_of rs) ≡ true → rooted (rows_of rs) (rows_of rs) ≡ true → (p : Names) (a : List ℕ) → child_at (rows_of rs) p a ≡ child_path (rows_of rs) p a
  least-child rs up c p a = least (rows_of rs) up c (clean-rows rs) p a

  abbrev child_in : Names → Option (Row V) → Option Names
  child_in p None = None
  child_in p (Some r) = cond (is_eq (by_names (parent (names r.path)) p)) (Some (names r.path)) None

  -- the row behind the name decides
  module _ (rs : List (Row V)) (p : Names) (a : List ℕ) (q : Names) (s : q ≡ p ++ behind a ∷ []) where
    pub child_read : (o : Option (Row V)) → o ≡ slice_get rs (lead q (rows_of rs)) → child_in p o ≡ child_at (rows_of rs) p a
    child_read o e =
        ap (child_in p) e ∙ ap (λ z. child_in p (slice_get rs (lead z (rows_of rs)))) s
        ∙ sym (asked-at (child_head p) (child_in p) refl (λ r rest. refl) rs (lead (p ++ behind a ∷ []) (rows_of rs)))

    -- it is not the root, so its parent is that of the path
    pub child_found : (r : Row V) → Some r ≡ slice_get rs (lead q (rows_of rs)) → (up : Option Path) → MatchOption up (names r.path ≡ []) (λ u. (0 < length (names r.path)) × (names u ≡ parent (names r.path))) → (x : Path) → names x ≡ p → (b : Bool) → b ≡ option_eq (eq_by_cmp order) up (Some x) → option_map names (then_some b r.path) ≡ child_at (rows_of rs) p a
    child_found r e up m x xs b t = by b ∙ ap (λ c. cond c (Some (names r.path)) None) (t ∙ test up m) ∙ child_read (Some r) e where
      by : (b : Bool) → option_map names (then_some b r.path) ≡ cond b (Some (names r.path)) None
      by true = refl
      by false = refl

      test : (up : Option Path) → MatchOption up (names r.path ≡ []) (λ u. (0 < length (names r.path)) × (names u ≡ parent (names r.path))) → option_eq (eq_by_cmp order) up (Some x) ≡ is_eq (by_names (parent (names r.path)) p)
      test None root = absurd (both_ways (is_ahead q r) (not_ahead q rs r e) (ap (λ z. before z q) root ∙ ap (before []) s ∙ root_first p (behind a)))
      test (Some u) m = ap (λ z. is_eq (by_names z (names x))) m.1 ∙ ap (λ z. is_eq (by_names (parent (names r.path)) z)) xs
