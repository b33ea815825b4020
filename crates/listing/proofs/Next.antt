-- The path that comes next: the first child, or the next sibling of the nearest prefix that has one. Assumes nothing.
use Rattle.std.proofs.Common.{◌≡◌, ℕ, true, false, List, [], ◌∷◌, ◌++◌, Some, None, Ordering, Less, Equal, Greater, sym, refl, ap, ◌∙◌, subst, ⊎_elim, append_assoc, append-nil}
use Rattle.std.proofs.lemmas.Bool.{true≢false, both_ways, false_from_ne_true}
use Rattle.std.specs.Ordering.{is_lt, is_le, ordering_then}
use Rattle.paths.specs.Names.{last_name, Under}
use Rattle.paths.specs.Order.{by_bytes, by_names}
use Rattle.paths.proofs.Laws.{bytes-exact, prefix_first, between}
use Rattle.paths.proofs.Joins.{plain-from-fault, not_empty, Plain}
use Rattle.rows.specs.Maps.{before, first, has, ascending, is_child, is_after}
use Rattle.trees.specs.Entries.{Row, closed}
use Rattle.rows.proofs.Orders.{before-le, not_before-same, not_both, le-before, shared, some_name, is-less}
use Rattle.rows.proofs.Least.{is_child_of, child_passes}
use Rattle.rows.proofs.Firsts.{In, first_some, first-none, first-least, first-is, first_no, there, at-holds, child-there, in-there}
use Rattle.trees.proofs.Answering.{fine_parts}
use Rattle.trees.proofs.Closed.{is-fine, closed-rooted}

module _ (rs : List Row) (a : ascending rs ≡ true) (c : closed rs rs ≡ true) (p : List (List ℕ)) where
  -- no row after p is at or below q
  abbrev pub Clear : List (List ℕ) → Type 0
  Clear q = (x : Row) → In rs x → before p x.0 ≡ true → Under q x.0 → ⊥

  -- what is known where the children of q above n are asked for
  pub record Stands (q : List (List ℕ)) (n : List ℕ) : Type 0 where
    pub below : is_le (by_names q p) ≡ true
    pub ahead : (m : List ℕ) → is_lt (by_bytes n m) ≡ true → before p (q ++ m ∷ []) ≡ true
    pub beyond : (x : Row) → In rs x → before p x.0 ≡ true → Under q x.0 → (m : List ℕ) × (rest : List (List ℕ)) × (x.0 ≡ q ++ m ∷ rest) × (is_lt (by_bytes n m) ≡ true)

  -- at first, for the path itself
  pub stands-first : Stands p []
  stands-first = record { below = subst (λ z. is_le (by_names p z) ≡ true) (append-nil p) (prefix_first p []); ahead = far; beyond = more } where
    far : (m : List ℕ) → is_lt (by_bytes [] m) ≡ true → before p (p ++ m ∷ []) ≡ true
    far m h = subst (λ z. before z (p ++ m ∷ []) ≡ true) (append-nil p) (ap is_lt (shared p [] (m ∷ [])))

    more : (x : Row) → In rs x → before p x.0 ≡ true → Under p x.0 → (m : List ℕ) × (rest : List (List ℕ)) × (x.0 ≡ p ++ m ∷ rest) × (is_lt (by_bytes [] m) ≡ true)
    more x i h u = go u.0 u.1 where
      go : (rest : List (List ℕ)) → x.0 ≡ p ++ rest → (m : List ℕ) × (rest : List (List ℕ)) × (x.0 ≡ p ++ m ∷ rest) × (is_lt (by_bytes [] m) ≡ true)
      go [] e = absurd (not_before-same p x.0 (sym (e ∙ append-nil p)) h)
      go (m ∷ rest) e =
          let f = is-fine rs c x.0 (in-there rs a x i) in
          let g = plain-from-fault 0 x.0 (fine_parts x.0 f).0 in
          (m, rest, e, some_name m (not_empty p m rest (subst Plain e g)))

  -- then, for the parent of a prefix that has no more
  pub stands_up : (q : List (List ℕ)) (n : List ℕ) → Under (q ++ n ∷ []) p → Clear (q ++ n ∷ []) → Stands q n
  stands_up q n u clear = record { below = subst (λ z. is_le (by_names q z) ≡ true) (sym is) (prefix_first q (n ∷ u.0)); ahead = far; beyond = more } where
    is : p ≡ q ++ n ∷ u.0
    is = u.1 ∙ append_assoc q (n ∷ []) u.0

    far : (m : List ℕ) → is_lt (by_bytes n m) ≡ true → before p (q ++ m ∷ []) ≡ true
    far m h =
        subst (λ z. before z (q ++ m ∷ []) ≡ true) (sym is) (ap is_lt (shared q (n ∷ u.0) (m ∷ [])) ∙ ap (λ k. is_lt (ordering_then k (by_names u.0 []))) (is-less (by_bytes n m) h))

    more : (x : Row) → In rs x → before p x.0 ≡ true → Under q x.0 → (m : List ℕ) × (rest : List (List ℕ)) × (x.0 ≡ q ++ m ∷ rest) × (is_lt (by_bytes n m) ≡ true)
    more x i h v = go v.0 v.1 where
      go : (rest : List (List ℕ)) → x.0 ≡ q ++ rest → (m : List ℕ) × (rest : List (List ℕ)) × (x.0 ≡ q ++ m ∷ rest) × (is_lt (by_bytes n m) ≡ true)
      go [] e =
          let b : before (q ++ n ∷ u.0) (q ++ []) ≡ true = subst (λ z. before z (q ++ []) ≡ true) is (subst (λ z. before p z ≡ true) e h) in
          absurd (true≢false (sym b ∙ ap is_lt (shared q (n ∷ u.0) [])))
      go (m ∷ rest) e =
          let b : before (q ++ n ∷ u.0) (q ++ m ∷ rest) ≡ true = subst (λ z. before z (q ++ m ∷ rest) ≡ true) is (subst (λ z. before p z ≡ true) e h) in
          let d : is_lt (ordering_then (by_bytes n m) (by_names u.0 rest)) ≡ true = sym (ap is_lt (shared q (n ∷ u.0) (m ∷ rest))) ∙ b in
          by (by_bytes n m) refl d where
            by : (k : Ordering) → by_bytes n m ≡ k → is_lt (ordering_then k (by_names u.0 rest)) ≡ true → (m : List ℕ) × (rest : List (List ℕ)) × (x.0 ≡ q ++ m ∷ rest) × (is_lt (by_bytes n m) ≡ true)
            by Less f d = (m, rest, e, ap is_lt f)
            by Equal f d =
                let w : x.0 ≡ (q ++ n ∷ []) ++ rest = e ∙ ap (λ z. q ++ z ∷ rest) (sym (bytes-exact n m f)) ∙ sym (append_assoc q (n ∷ []) rest) in
                absurd (clear x i h (rest, w))
            by Greater f d = absurd (true≢false (sym d))

  module _ (q : List (List ℕ)) (n : List ℕ) (s : Stands q n) where
    -- the child of q that a row below q goes through
    child-row : (x : Row) → In rs x → (m : List ℕ) (rest : List (List ℕ)) → x.0 ≡ q ++ m ∷ rest → is_lt (by_bytes n m) ≡ true → (y : Row) × (In rs y) × (y.0 ≡ q ++ m ∷ []) × (is_child q n y ≡ true)
    child-row x i m rest e l =
        let t = there rs (q ++ m ∷ []) (child-there rs (closed-rooted rs rs c) m rest q (subst (λ z. has rs z ≡ true) e (in-there rs a x i))) in (
          (q ++ m ∷ [], t.0),
          at-holds rs (q ++ m ∷ []) t.0 t.1,
          refl,
          child_passes q n m t.0 l,
        )

    pub none-clear : first (is_child q n) rs ≡ None → Clear q
    none-clear h x i b u =
        let d = s.beyond x i b u in
        let y = child-row x i d.0 d.1 d.2 d.3 in
        both_ways (is_child q n y.0) (first-none (is_child q n) rs h y.0 y.1) y.3

    module _ (r : Row) (h : first (is_child q n) rs ≡ Some r) where
      named : (r.0 ≡ q ++ last_name r.0 ∷ []) × (is_lt (by_bytes n (last_name r.0)) ≡ true)
      named = is_child_of q n r (first_some (is_child q n) rs r h).1

      row_is : r.0 ≡ q ++ last_name r.0 ∷ []
      row_is = named.0

      pub some_next : first (is_after p) rs ≡ Some r
      some_next = first-is (is_after p) rs a r (first_some (is_child q n) rs r h).0 over low where
        over : before p r.0 ≡ true
        over = subst (λ z. before p z ≡ true) (sym row_is) (s.ahead (last_name r.0) named.1)

        low : (x : Row) → In rs x → before x.0 r.0 ≡ true → is_after p x ≡ false
        low x i b = false_from_ne_true (is_after p x) no where
          no : is_after p x ≡ true → ⊥
          no e =
              let u = between q x.0 r.0 (before-le q x.0 (le-before q p x.0 s.below e)) (before-le x.0 r.0 b) (last_name r.0 ∷ [], row_is) in
              let d = s.beyond x i e u in
              let y = child-row x i d.0 d.1 d.2 d.3 in
              let le : is_le (by_names y.0.0 x.0) ≡ true = subst (λ z. is_le (by_names y.0.0 z) ≡ true) (sym (d.2 ∙ sym (append_assoc q (d.0 ∷ []) d.1))) (subst (λ z. is_le (by_names z ((q ++ d.0 ∷ []) ++ d.1)) ≡ true) (sym y.2) (prefix_first (q ++ d.0 ∷ []) d.1)) in
              let lt = le-before y.0.0 x.0 r.0 le b in
              ⊎_elim (λ w. not_before-same y.0.0 r.0 (ap (λ z. z.0) w) lt) (λ w. not_both y.0.0 r.0 lt w) (first-least (is_child q n) rs a r y.0 h y.1 y.3)

  -- past the root there is nothing
  pub clear_none : Clear [] → first (is_after p) rs ≡ None
  clear_none clear = first_no (is_after p) rs no_more where
    no_more : (x : Row) → In rs x → is_after p x ≡ false
    no_more x i = false_from_ne_true (is_after p x) (λ e. clear x i e (x.0, refl))
