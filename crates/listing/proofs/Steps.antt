-- The turns of `following`. Assumes nothing.
use Rattle.std.proofs.Common.{◌≡◌, ℕ, ◌<◌, true, List, [], ◌∷◌, ◌++◌, length, Some, None, sym, ap, ◌∙◌, subst, append_assoc, append-nil, arith}
use Rattle.std.proofs.lemmas.List.{length-append}
use Rattle.std.specs.Option.{option_map}
use Rattle.paths.specs.Names.{parent, last_name, Under}
use Rattle.rows.specs.Maps.{first, has, ascending, is_child, child_path, path_after}
use Rattle.trees.specs.Entries.{Entries, closed}
use Rattle.rows.proofs.Orders.{as_child}
use Rattle.rows.proofs.Firsts.{up}
use Rattle.trees.proofs.Closed.{tree_parts, closed-rooted}
use Rattle.listing.proofs.Next.{Clear, Stands, stands-first, stands_up, none-clear, some_next, clear_none}
use Rattle.listing.proofs.Child.{Left}
use Rattle.paths.proofs.Granted.{mapped_none, mapped_some}

child_of : (q : List (List ℕ)) → 0 < length q → q ≡ parent q ++ last_name q ∷ []
child_of [] h = absurd (omega arith)
child_of (m ∷ q) h = as_child m q

pub shorter : (up-q q : List (List ℕ)) → up-q ≡ parent q → 0 < length q → length up-q < length q
shorter up-q q is more =
    omega (arith, ap length is, ap length (child_of q more), length-append (parent q) (last_name q ∷ []))

module _ (en : Entries) (p : List (List ℕ)) where
  asc : ascending en.rows ≡ true
  asc = (tree_parts en.rows en.ok).0

  clo : closed en.rows en.rows ≡ true
  clo = (tree_parts en.rows en.ok).1

  by_some : (q : List (List ℕ)) (n : List ℕ) → Stands en.rows asc clo p q n → (z : List (List ℕ)) → Some z ≡ child_path en.rows q n → Some z ≡ path_after en.rows p
  by_some q n s z e =
      let d = mapped_some (λ r. r.0) (first (is_child q n) en.rows) z (sym e) in
      sym (ap (option_map (λ r. r.0)) (some_next en.rows asc clo p q n s d.0 d.1) ∙ ap Some d.2)

  pub start_some : (z : List (List ℕ)) → Some z ≡ child_path en.rows p [] → Some z ≡ path_after en.rows p
  start_some z e = by_some p [] (stands-first en.rows asc clo p) z e

  pub start_none : has en.rows p ≡ true → None ≡ child_path en.rows p [] → Left en p p
  start_none h e = record {
    under = ([], sym (append-nil p));
    there = h;
    clear = none-clear en.rows asc clo p p [] (stands-first en.rows asc clo p) (mapped_none (λ r. r.0) (first (is_child p []) en.rows) (sym e));
  }

  pub at_root : Left en p [] → None ≡ path_after en.rows p
  at_root l = sym (ap (option_map (λ r. r.0)) (clear_none en.rows asc clo p l.clear))

  module _ (q : List (List ℕ)) (l : Left en p q) (up-q : List (List ℕ)) (is : up-q ≡ parent q) where
    step_there : has en.rows up-q ≡ true
    step_there = subst (λ z. has en.rows z ≡ true) (sym is) (up en.rows (closed-rooted en.rows en.rows clo) q l.there)

    module _ (more : 0 < length q) where
      whole : q ≡ up-q ++ last_name q ∷ []
      whole = child_of q more ∙ ap (λ z. z ++ last_name q ∷ []) (sym is)

      stands : Stands en.rows asc clo p up-q (last_name q)
      stands = stands_up en.rows asc clo p up-q (last_name q) (subst (λ z. Under z p) whole l.under) (subst (Clear en.rows asc clo p) whole l.clear)

      pub step_some : (z : List (List ℕ)) → Some z ≡ child_path en.rows up-q (last_name q) → Some z ≡ path_after en.rows p
      step_some z e = by_some up-q (last_name q) stands z e

      pub step_none : None ≡ child_path en.rows up-q (last_name q) → Left en p up-q
      step_none e = record {
        under = (last_name q ∷ l.under.0, l.under.1 ∙ ap (λ z. z ++ l.under.0) whole ∙ append_assoc up-q (last_name q ∷ []) l.under.0);
        there = step_there;
        clear = none-clear en.rows asc clo p up-q (last_name q) stands (mapped_none (λ r. r.0) (first (is_child up-q (last_name q)) en.rows) (sym e));
      }

-- what `following` needs
pub ruleset onward = (start_some, start_none, step_some, shorter, at_root)
