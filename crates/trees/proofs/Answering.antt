-- What a tree's `look` and `next` say of a good path. Assumes nothing.
use Rattle.std.proofs.Common.{◌≡◌, ℕ, ◌≤◌, Bool, true, false, not, leb, List, [], ◌∷◌, ◌++◌, length, take, drop, is_some, Some, None, Ok, Err, Option, Result, sym, refl, ap, ◌∙◌, subst, zero-add}
use Rattle.std.proofs.lemmas.List.{take_at}
use Rattle.std.proofs.lemmas.Bool.{true≢false, both_ways, and_parts, not-true, leb-true}
use Rattle.std.specs.Option.{option_map}
use Rattle.std.specs.Result.{result_ok}
use Rattle.std.specs.Ordering.{is_lt, is_eq}
use Rattle.paths.specs.Names.{split, join, fault, good, judge, judged, fault_in, parent, last_name}
use Rattle.paths.specs.Order.{by_bytes, by_names}
use Rattle.paths.specs.declared.PathFault.{PathFault}
use Rattle.paths.specs.Paths.{child_fault, Child, text, names}
use Rattle.paths.proofs.Joins.{good_parts, fault-append, fault_parts, name_parts, child_short}
use Rattle.trees.specs.declared.entry.Entry.{Entry}
use Rattle.trees.specs.declared.entry.Entry.TheVariants.{File, Dir}
use Rattle.trees.specs.declared.fault.Fault.{Fault}
use Rattle.paths.specs.declared.Path.{Path}
use Rattle.rows.specs.Maps.{first, at, ascending, is_child, child_path}
use Rattle.trees.specs.Entries.{Entries, Row, is_dir, closed, fine}
use Rattle.trees.specs.Answers.{next_of, next_in, next_at, counted, put_name}
use Rattle.rows.proofs.Orders.{same-is, as_child, no_name_least}
use Rattle.rows.proofs.Firsts.{In, first_some, first_no, in-there}
use Rattle.trees.proofs.Closed.{is-fine, up-dir, tree_parts}
use Rattle.paths.proofs.Granted.{is_none}

pub fine_parts : (p : List (List ℕ)) → fine p ≡ true → (is_some (fault_in 0 p) ≡ false) × (leb (length (join p)) 120 ≡ true)
fine_parts p h =
    let q = and_parts (not (is_some (fault_in 0 p))) (leb (length (join p)) 120) h in
    (not-true (is_some (fault_in 0 p)) q.0, q.1)

judge-good : (s : List ℕ) → good s ≡ true → judge s ≡ Ok (split s)
judge-good s g = ap (judged (split s)) (is_none (fault s) (not-true (is_some (fault s)) g))

module _ (rs : List Row) (a : ascending rs ≡ true) (c : closed rs rs ≡ true) (ns : List (List ℕ)) (after : List ℕ) where
  child-is : (r : Row) → is_child ns after r ≡ true → r.0 ≡ ns ++ last_name r.0 ∷ []
  child-is r t = go r.0 (same-is (parent r.0) ns p.0) p.1 where
    p : (is_eq (by_names (parent r.0) ns) ≡ true) × (is_lt (by_bytes after (last_name r.0)) ≡ true)
    p = and_parts (is_eq (by_names (parent r.0) ns)) (is_lt (by_bytes after (last_name r.0))) t

    go : (z : List (List ℕ)) → parent z ≡ ns → is_lt (by_bytes after (last_name z)) ≡ true → z ≡ ns ++ last_name z ∷ []
    go [] e l = absurd (no_name_least after l)
    go (m ∷ z) e l = as_child m z ∙ ap (λ y. y ++ last_name (m ∷ z) ∷ []) e

  -- only a directory has children
  none_below : is_dir (at rs ns) ≡ false → child_path rs ns after ≡ None
  none_below f = ap (option_map (λ r. r.0)) (first_no (is_child ns after) rs low) where
    low : (x : Row) → In rs x → is_child ns after x ≡ false
    low x i = go (is_child ns after x) refl where
      go : (t : Bool) → is_child ns after x ≡ t → is_child ns after x ≡ false
      go false e = e
      go true e =
          let p = and_parts (is_eq (by_names (parent x.0) ns)) (is_lt (by_bytes after (last_name x.0))) e in
          let d = up-dir rs c x.0 (in-there rs a x i) in
          absurd (both_ways (is_dir (at rs ns)) f (sym (ap (λ z. is_dir (at rs z)) (same-is (parent x.0) ns p.0)) ∙ d))

  abbrev Answered : Result (Option (List ℕ)) Fault → Type 0
  Answered (Err f) = child_path rs ns after ≡ None
  Answered (Ok None) = child_path rs ns after ≡ None
  Answered (Ok (Some n)) = (child_path rs ns after ≡ Some (ns ++ n ∷ [])) × (child_fault ns n ≡ None) × (length n ≤ 40)

  -- a present child can be made from its name
  child_can : is_some (fault_in 0 ns) ≡ false → (n : List ℕ) → fine (ns ++ n ∷ []) ≡ true → (child_fault ns n ≡ None) × (length n ≤ 40)
  child_can g n f =
      let p = fine_parts (ns ++ n ∷ []) f in
      let e : fault_in 0 (ns ++ n ∷ []) ≡ fault_in (length ns) (n ∷ []) = fault-append 0 ns (n ∷ []) g ∙ ap (λ j. fault_in j (n ∷ [])) (zero-add (length ns)) in
      let k : is_some (fault_in (length ns) (n ∷ [])) ≡ false = sym (ap is_some e) ∙ p.0 in (
        child_short ns n (leb-true (length (join (ns ++ n ∷ []))) 120 p.1) ∙ is_none (fault_in (length ns) (n ∷ [])) k,
        (name_parts n (fault_parts (length ns) n [] k).1).1,
      )

  listed : is_some (fault_in 0 ns) ≡ false → (o : Option Row) → first (is_child ns after) rs ≡ o → Answered (Ok (option_map last_name (option_map (λ r. r.0) o)))
  listed g None e = ap (option_map (λ r. r.0)) e
  listed g (Some r) e =
      let d = first_some (is_child ns after) rs r e in
      let k = child-is r d.1 in
      let f = is-fine rs c r.0 (in-there rs a r d.0) in
      let m = child_can g (last_name r.0) (subst (λ z. fine z ≡ true) k f) in
      (ap (option_map (λ r. r.0)) e ∙ ap Some k, m.0, m.1)

  stepped : is_some (fault_in 0 ns) ≡ false → (o : Option Entry) → at rs ns ≡ o → Answered (next_at rs ns after 40 o)
  stepped g None e = none_below (ap is_dir e)
  stepped g (Some (File m)) e = none_below (ap is_dir e)
  stepped g (Some (Dir m)) e = listed g (first (is_child ns after) rs) refl

module _ (rs : List Row) (a : ascending rs ≡ true) (c : closed rs rs ≡ true) (s : List ℕ) (g : good s ≡ true) (after : List ℕ) where
  answered : Answered rs a c (split s) after (next_of rs s after 40)
  answered =
      subst (λ j. Answered rs a c (split s) after (next_in rs after 40 j)) (sym (judge-good s g))
      (stepped rs a c (split s) after (good_parts s g).1 (at rs (split s)) refl)

-- the same of a tree's entries and a path
module _ (en : Entries) (p : Path) (s after : List ℕ) (is : s ≡ text p) where
  sure : (ascending en.rows ≡ true) × (closed en.rows en.rows ≡ true)
  sure = tree_parts en.rows en.ok

  abbrev Told : Result (Option (List ℕ)) Fault → Type 0
  Told st = Answered en.rows sure.0 sure.1 (names p) after st

  told : Told (next_of en.rows s after 40)
  told = subst (λ z. Told (next_of en.rows z after 40)) (sym is) (answered en.rows sure.0 sure.1 (text p) p.sound after)

  -- no name was told
  pub none_told : result_ok (counted (next_of en.rows s after 40)) ≡ None → child_path en.rows (names p) after ≡ None
  none_told = go (next_of en.rows s after 40) told where
    go : (st : Result (Option (List ℕ)) Fault) → Told st → result_ok (counted st) ≡ None → child_path en.rows (names p) after ≡ None
    go (Err f) d e = d
    go (Ok o) d e = absurd (true≢false (ap is_some e))

  -- the name that was told makes the child
  pub name_told : (k : ℕ) (b buf : List ℕ) (q : Result Path PathFault) → result_ok (counted (next_of en.rows s after 40)) ≡ Some (Some k) → buf ≡ put_name (next_of en.rows s after 40) b → Child p (take k buf) q → option_map names (result_ok q) ≡ child_path en.rows (names p) after
  name_told k b buf = go (next_of en.rows s after 40) told where
    made : (n : List ℕ) → Told (Ok (Some n)) → take k buf ≡ n → (q : Result Path PathFault) → Child p (take k buf) q → option_map names (result_ok q) ≡ child_path en.rows (names p) after
    made n d t (Ok x) h = ap Some (h.1 ∙ ap (λ z. names p ++ z ∷ []) t) ∙ sym d.0
    made n d t (Err f) h = absurd (true≢false (ap is_some (sym h ∙ ap (child_fault (names p)) t ∙ d.1)))

    go : (st : Result (Option (List ℕ)) Fault) → Told st → (q : Result Path PathFault) → result_ok (counted st) ≡ Some (Some k) → buf ≡ put_name st b → Child p (take k buf) q → option_map names (result_ok q) ≡ child_path en.rows (names p) after
    go (Err f) d q e w h = absurd (true≢false (ap is_some (sym e)))
    go (Ok None) d q e w h = let z : ◌≡◌ {A = Bool} true false = cc in absurd (true≢false z)
    go (Ok (Some n)) d q e w h =
        let l : k ≡ length n = cc in
        made n d (ap (take k) w ∙ take_at n (drop (length n) b) k (sym l)) q h
