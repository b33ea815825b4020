-- The first row is the root's. Assumes nothing.
use Rattle.std.proofs.Common.{◌≡◌, ℕ, true, false, List, [], ◌∷◌, is_some, Some, None, Option, sym, refl, ap, ◌∙◌, inl, ⊎_elim}
use Rattle.std.proofs.lemmas.Bool.{true≢false, both_ways, cond-true}
use Rattle.std.specs.Option.{option_map}
use Rattle.trees.specs.declared.entry.Entry.{Entry}
use Rattle.rows.specs.Maps.{before, is_at, at, has, ascending}
use Rattle.trees.specs.Entries.{Entries, Row, closed}
use Rattle.paths.specs.declared.Path.{Path}
use Rattle.paths.specs.Names.{split}
use Rattle.paths.specs.Paths.{text, names}
use Rattle.listing.specs.Walks.{from, from_at, texts, left}
use Rattle.trees.proofs.Closed.{tree_parts, closed-rooted}
use Rattle.rows.proofs.Orders.{is_same}
use Rattle.rows.proofs.Firsts.{head_least, at-holds, there, in-there, prefix_there}

none-before_root : (x : List (List ℕ)) → before x [] ≡ true → ⊥
none-before_root [] h = true≢false (sym h)
none-before_root (n ∷ x) h = true≢false (sym h)

root_first : (rs : List Row) → ascending rs ≡ true → has rs [] ≡ true → from [] rs ≡ rs
root_first [] a h = refl
root_first (r ∷ rs) a h =
    let e = there (r ∷ rs) [] h in
    cond-true (is_at [] r) (r ∷ rs) (from [] rs) (is_same r.0 [] (⊎_elim (λ s. ap (λ z. z.0) (sym s)) (λ j. absurd (none-before_root r.0 (head_least r rs a ([], e.0) j))) (at-holds (r ∷ rs) [] e.0 e.1)))

root_none : (rs : List Row) → ascending rs ≡ true → closed rs rs ≡ true → has rs [] ≡ false → [] ≡ rs
root_none [] a c h = refl
root_none (r ∷ rs) a c h = absurd (both_ways (has (r ∷ rs) []) h (prefix_there (r ∷ rs) (closed-rooted (r ∷ rs) (r ∷ rs) c) r.0 [] (in-there (r ∷ rs) a r (inl refl))))

module _ (en : Entries) where
  sure : (ascending en.rows ≡ true) × (closed en.rows en.rows ≡ true)
  sure = tree_parts en.rows en.ok

  rooted : (o : Option Entry) → at en.rows [] ≡ o → from_at (option_map (λ e. []) o) en.rows ≡ en.rows
  rooted None f = root_none en.rows sure.0 sure.1 (ap is_some f)
  rooted (Some e) f = root_first en.rows sure.0 (ap is_some f)

  -- all lines are left at the root
  pub all_left : (root : Path) (o : Option Entry) (m : Option Path) → text root ≡ [] → o ≡ at en.rows (names root) → m ≡ option_map (λ e. root) o → left en m ≡ texts en.rows
  all_left root o m t f e =
      let k : names root ≡ [] = ap split t in
      ap (left en) e ∙ go o k ∙ ap texts (rooted o (sym (f ∙ ap (at en.rows) k))) where
        go : (o : Option Entry) → names root ≡ [] → left en (option_map (λ e. root) o) ≡ texts (from_at (option_map (λ e. []) o) en.rows)
        go None k = refl
        go (Some e) k = ap (λ z. texts (from z en.rows)) k
