-- What maps made path by path have at each path. Assumes nothing.
use Rattle.std.proofs.Common.{◌≡◌, Bool, true, false, cond, ◌||◌, ◌⊎◌, List, [], ◌∷◌, is_some, Some, None, Option, Ordering, Less, Equal, Greater, sym, refl, ap, ◌∙◌, inl, inr, ⊎_elim}
use Rattle.std.proofs.Math.Bool.{or_assoc, or_self_left}
use Rattle.std.proofs.lemmas.Bool.{true≢false, cond-true, cond-false, or_parts, or_left, or_right, and_parts, and_from}
use Rattle.std.specs.Cmp.{nat_cmp_total}
use Rattle.std.specs.Cmp.Lexicographic.{lists_total}
use Rattle.std.specs.Option.{option_map}
use Rattle.std.specs.Ordering.{is_eq, is_lt, ordering_reverse}
use Rattle.paths.specs.Order.{by_names}
use Rattle.paths.proofs.Laws.{itself, names-exact}
use Rattle.rows.specs.Maps.{Names, first, is_at, at, has, above, ascending}
use Rattle.rows.specs.Builds.{same, among, put_by, add, union, keys, row, build, set_at}
use Rattle.rows.proofs.Orders.{is-less}
use Rattle.std.proofs.lemmas.Option.{none-some, same_Some}

-- ---- paths

pub flip : (a b : Names) → by_names a b ≡ ordering_reverse (by_names b a)
flip = (lists_total (lists_total nat_cmp_total)).antisymm

-- two paths are one, or the test tells them apart
pub told : (a b : Names) → ((a ≡ b) × (same a b ≡ true)) ⊎ (same a b ≡ false)
told a b = go (by_names b a) refl where
  go : (r : Ordering) → by_names b a ≡ r → ((a ≡ b) × (same a b ≡ true)) ⊎ (same a b ≡ false)
  go Less e = inr (ap is_eq e)
  go Equal e = inl (sym (names-exact b a e), ap is_eq e)
  go Greater e = inr (ap is_eq e)

pub same-itself : (a : Names) → same a a ≡ true
same-itself a = ap is_eq (itself (lists_total (lists_total nat_cmp_total)) a)

pub same_path : (a b : Names) → same a b ≡ true → a ≡ b
same_path a b h = ⊎_elim (λ y. y.0) (λ n. absurd (true≢false (sym h ∙ n))) (told a b)

-- a path that comes before another is not that
pub apart : (a b : Names) → by_names a b ≡ Less → same a b ≡ false
apart a b e = ap is_eq (flip b a ∙ ap ordering_reverse e)

or_swap : (a b c : Bool) → (a || (b || c)) ≡ (b || (a || c))
or_swap true true c = refl
or_swap true false c = refl
or_swap false b c = refl

pub among-add : (ks : List Names) (k q : Names) → among (add ks k) q ≡ (same q k || among ks q)
among-add [] k q = refl
among-add (x ∷ xs) k q = go (by_names k x) refl (among-add xs k q) where
  go : (r : Ordering) → by_names k x ≡ r → among (add xs k) q ≡ (same q k || among xs q) → among (put_by r k x xs (add xs k)) q ≡ (same q k || (same q x || among xs q))
  go Less e h = refl
  go Equal e h = sym (or_self_left (same q x) (among xs q)) ∙ ap (λ j. same q j || (same q x || among xs q)) (sym (names-exact k x e))
  go Greater e h = ap (λ t. same q x || t) h ∙ or_swap (same q x) (same q k) (among xs q)

pub among-union : (ks js : List Names) (q : Names) → among (union ks js) q ≡ (among ks q || among js q)
among-union [] js q = refl
among-union (k ∷ ks) js q =
    among-add (union ks js) k q ∙ (ap (λ t. same q k || t) (among-union ks js q) ∙ sym (or_assoc (same q k) (among ks q) (among js q)))

-- ---- order

abbrev pub Above : Names → List Names → Type 0
Above k [] = Unit {0}
Above k (j ∷ js) = (by_names k j ≡ Less) × Above k js

abbrev pub Ascends : List Names → Type 0
Ascends [] = Unit {0}
Ascends (k ∷ ks) = Above k ks × Ascends ks

chains : (a b c : Names) → by_names a b ≡ Less → by_names b c ≡ Less → by_names a c ≡ Less
chains a b c h g = (lists_total (lists_total nat_cmp_total)).trans a b c h g

pub above_chain : (j k : Names) (ks : List Names) → by_names j k ≡ Less → Above k ks → Above j ks
above_chain j k [] e h = tt
above_chain j k (x ∷ xs) e h = (chains j k x e h.0, above_chain j k xs e h.1)

above-add : (j : Names) (ks : List Names) (k : Names) → Above j ks → by_names j k ≡ Less → Above j (add ks k)
above-add j [] k h e = (e, tt)
above-add j (x ∷ xs) k h e = go (by_names k x) (above-add j xs k h.1 e) where
  go : (r : Ordering) → Above j (add xs k) → Above j (put_by r k x xs (add xs k))
  go Less t = (e, h)
  go Equal t = h
  go Greater t = (h.0, t)

pub ascends-add : (ks : List Names) (k : Names) → Ascends ks → Ascends (add ks k)
ascends-add [] k h = (tt, tt)
ascends-add (x ∷ xs) k h = go (by_names k x) refl (ascends-add xs k h.1) where
  go : (r : Ordering) → by_names k x ≡ r → Ascends (add xs k) → Ascends (put_by r k x xs (add xs k))
  go Less e t = ((e, above_chain k x xs e h.0), h)
  go Equal e t = h
  go Greater e t = (above-add x xs k h.0 (flip x k ∙ ap ordering_reverse e), t)

pub ascends-union : (ks js : List Names) → Ascends js → Ascends (union ks js)
ascends-union [] js h = h
ascends-union (k ∷ ks) js h = ascends-add (union ks js) k (ascends-union ks js h)

module _ {V : Type 0} where
  -- ---- rows that rise, by their paths

  pub ascends-keys : (rs : List (Names × V)) → ascending rs ≡ true → Ascends (keys rs)
  ascends-keys [] h = tt
  ascends-keys (r ∷ rs) h =
      let p = and_parts (above r.0 rs) (ascending rs) h in
      let t = ascends-keys rs p.1 in
      (over rs p.0 t, t) where
        over : (rs : List (Names × V)) → above r.0 rs ≡ true → Ascends (keys rs) → Above r.0 (keys rs)
        over [] a t = tt
        over (s ∷ ss) a t = let l = is-less (by_names r.0 s.0) a in (l, above_chain r.0 s.0 (keys ss) l t.0)

  pub keys_ascend : (rs : List (Names × V)) → Ascends (keys rs) → ascending rs ≡ true
  keys_ascend [] h = refl
  keys_ascend (r ∷ rs) h = and_from (above r.0 rs) (ascending rs) (over rs h.0) (keys_ascend rs h.1) where
    over : (rs : List (Names × V)) → Above r.0 (keys rs) → above r.0 rs ≡ true
    over [] a = refl
    over (s ∷ ss) a = ap is_lt a.0

  -- ---- look-ups

  pub at-cons : (r : Names × V) (rs : List (Names × V)) (q : Names) → at (r ∷ rs) q ≡ cond (same q r.0) (Some r.1) (at rs q)
  at-cons r rs q = go (is_at q r) where
    go : (t : Bool) → option_map (λ (x : Names × V). x.1) (cond t (Some r) (first (is_at q) rs)) ≡ cond t (Some r.1) (at rs q)
    go true = refl
    go false = refl

  pub at-missing : (m : List (Names × V)) (q : Names) → among (keys m) q ≡ false → at m q ≡ None
  at-missing [] q h = refl
  at-missing (r ∷ rs) q h =
      let p = or_parts (same q r.0) (among (keys rs) q) h in
      at-cons r rs q ∙ (cond-false (same q r.0) (Some r.1) (at rs q) p.0 ∙ at-missing rs q p.1)

  pub among-has : (m : List (Names × V)) (q : Names) → has m q ≡ among (keys m) q
  among-has [] q = refl
  among-has (r ∷ rs) q = ap is_some (at-cons r rs q) ∙ go (same q r.0) (among-has rs q) where
    go : (t : Bool) → is_some (at rs q) ≡ among (keys rs) q → is_some (cond t (Some r.1) (at rs q)) ≡ (t || among (keys rs) q)
    go true h = refl
    go false h = h

  -- ---- what a map built has

  module _ (f : Names → Option V) where
    above-build : (j : Names) (ks : List Names) → Above j ks → Above j (keys (build f ks))
    above-build j [] h = tt
    above-build j (k ∷ ks) h = go (f k) (above-build j ks h.1) where
      go : (w : Option V) → Above j (keys (build f ks)) → Above j (keys (row k w (build f ks)))
      go None t = t
      go (Some v) t = (h.0, t)

    ascends-build : (ks : List Names) → Ascends ks → Ascends (keys (build f ks))
    ascends-build [] h = tt
    ascends-build (k ∷ ks) h = go (f k) (ascends-build ks h.1) where
      go : (w : Option V) → Ascends (keys (build f ks)) → Ascends (keys (row k w (build f ks)))
      go None t = t
      go (Some v) t = (above-build k ks h.0, t)

    pub ascending-build : (ks : List Names) → Ascends ks → ascending (build f ks) ≡ true
    ascending-build ks h = keys_ascend (build f ks) (ascends-build ks h)

    row_here : (k q : Names) (w : Option V) (rs : List (Names × V)) (t : Bool) → same q k ≡ true → w ≡ f q → at rs q ≡ cond t (f q) None → at (row k w rs) q ≡ f q
    row_here k q None rs true s e h = h
    row_here k q None rs false s e h = h ∙ e
    row_here k q (Some v) rs t s e h = at-cons (k, v) rs q ∙ (cond-true (same q k) (Some v) (at rs q) s ∙ e)

    row_apart : (k q : Names) (w : Option V) (rs : List (Names × V)) → same q k ≡ false → at (row k w rs) q ≡ at rs q
    row_apart k q None rs s = refl
    row_apart k q (Some v) rs s = at-cons (k, v) rs q ∙ cond-false (same q k) (Some v) (at rs q) s

    at-build : (ks : List Names) (q : Names) → at (build f ks) q ≡ cond (among ks q) (f q) None
    at-build [] q = refl
    at-build (k ∷ ks) q =
        let h = at-build ks q in
        ⊎_elim
        (λ y. row_here k q (f k) (build f ks) (among ks q) y.1 (ap f (sym y.0)) h ∙ sym (ap (λ t. cond (t || among ks q) (f q) None) y.1))
        (λ n. row_apart k q (f k) (build f ks) n ∙ (h ∙ sym (ap (λ t. cond (t || among ks q) (f q) None) n)))
        (told q k)

    -- where f has nothing outside the paths
    pub at-built : (ks : List Names) (q : Names) → (among ks q ≡ false → f q ≡ None) → at (build f ks) q ≡ f q
    at-built ks q none = at-build ks q ∙ go (among ks q) none where
      go : (t : Bool) → (t ≡ false → f q ≡ None) → cond t (f q) None ≡ f q
      go true n = refl
      go false n = sym (n refl)

  -- a map built where f has a value has just those paths
  pub keys-build : (f : Names → Option V) (ks : List Names) → ((q : Names) → among ks q ≡ true → is_some (f q) ≡ true) → keys (build f ks) ≡ ks
  keys-build f [] h = refl
  keys-build f (k ∷ ks) h = go (f k) (h k (or_left (same k k) (among ks k) (same-itself k))) (keys-build f ks (λ q e. h q (or_right (same q k) (among ks q) e))) where
    go : (w : Option V) → is_some w ≡ true → keys (build f ks) ≡ ks → keys (row k w (build f ks)) ≡ (k ∷ ks)
    go None e t = absurd (true≢false (sym e))
    go (Some v) e t = ap (λ js. k ∷ js) t

  pub at_set : (m : List (Names × V)) (k : Names) (v : Option V) (q : Names) → at (set_at m k v) q ≡ cond (same q k) v (at m q)
  at_set m k v q =
      at-built (λ j. cond (same j k) v (at m j)) (add (keys m) k) q
      (λ h. let p = or_parts (same q k) (among (keys m) q) (sym (among-add (keys m) k q) ∙ h) in
      cond-false (same q k) v (at m q) p.0 ∙ at-missing m q p.1)

  pub ascending_set : (m : List (Names × V)) (k : Names) (v : Option V) → ascending m ≡ true → ascending (set_at m k v) ≡ true
  ascending_set m k v h = ascending-build (λ j. cond (same j k) v (at m j)) (add (keys m) k) (ascends-add (keys m) k (ascends-keys m h))

  -- ---- equal look-ups, equal rows

  above-none : (j : Names) (m : List (Names × V)) → Above j (keys m) → at m j ≡ None
  above-none j [] h = refl
  above-none j (r ∷ rs) h = at-cons r rs j ∙ (cond-false (same j r.0) (Some r.1) (at rs j) (apart j r.0 h.0) ∙ above-none j rs h.1)

  at_first : (r : Names × V) (rs : List (Names × V)) → at (r ∷ rs) r.0 ≡ Some r.1
  at_first r rs = at-cons r rs r.0 ∙ cond-true (same r.0 r.0) (Some r.1) (at rs r.0) (same-itself r.0)

  -- the look-ups in the tails
  at_rest : (r s : Names × V) (rs ss : List (Names × V)) → r.0 ≡ s.0 → Above r.0 (keys rs) → Above s.0 (keys ss) → (q : Names) → at (r ∷ rs) q ≡ at (s ∷ ss) q → at rs q ≡ at ss q
  at_rest r s rs ss e a b q h =
      ⊎_elim
      (λ y. (ap (at rs) y.0 ∙ above-none r.0 rs a) ∙ sym (ap (at ss) (y.0 ∙ e) ∙ above-none s.0 ss b))
      (λ n. sym (at-cons r rs q ∙ cond-false (same q r.0) (Some r.1) (at rs q) n) ∙ (h ∙ (at-cons s ss q ∙ cond-false (same q s.0) (Some s.1) (at ss q) (sym (ap (same q) e) ∙ n))))
      (told q r.0)

  pub same_some : (v w : V) → ◌≡◌ {A = Option V} (Some v) (Some w) → v ≡ w
  same_some v w e = cc

  same-keyed : (m n : List (Names × V)) → Ascends (keys m) → Ascends (keys n) → ((q : Names) → at m q ≡ at n q) → m ≡ n
  same-keyed [] [] a b h = refl
  same-keyed [] (s ∷ ss) a b h = absurd (none-some s.1 (h s.0 ∙ at_first s ss))
  same-keyed (r ∷ rs) [] a b h = absurd (none-some r.1 (sym (h r.0) ∙ at_first r rs))
  same-keyed (r ∷ rs) (s ∷ ss) a b h = go (by_names r.0 s.0) refl (same-keyed rs ss a.1 b.1) where
    go : (k : Ordering) → by_names r.0 s.0 ≡ k → (((q : Names) → at rs q ≡ at ss q) → rs ≡ ss) → ◌≡◌ {A = List (Names × V)} (r ∷ rs) (s ∷ ss)
    go Less e f = absurd (none-some r.1 (sym (h r.0 ∙ above-none r.0 (s ∷ ss) (e, above_chain r.0 s.0 (keys ss) e b.0)) ∙ at_first r rs))
    go Equal e f =
        let k = names-exact r.0 s.0 e in
        let v = same_Some r.1 s.1 (sym (at_first r rs) ∙ (h r.0 ∙ (ap (at (s ∷ ss)) k ∙ at_first s ss))) in
        let t = f (λ q. at_rest r s rs ss k a.0 b.0 q (h q)) in
        λ i. (k i, v i) ∷ t i
    go Greater e f =
        let l = flip s.0 r.0 ∙ ap ordering_reverse e in
        absurd (none-some s.1 (sym (sym (h s.0) ∙ above-none s.0 (r ∷ rs) (l, above_chain s.0 r.0 (keys rs) l a.0)) ∙ at_first s ss))

  -- rows that rise and answer alike are the same rows
  pub same_rows : (m n : List (Names × V)) → ascending m ≡ true → ascending n ≡ true → ((q : Names) → at m q ≡ at n q) → m ≡ n
  same_rows m n a b h = same-keyed m n (ascends-keys m a) (ascends-keys n b) h

module _ {A B C : Type 0} (f : Names → Option A → Option B → Option C) where
  -- two maps, joined path by path
  pub at_joined : (a : List (Names × A)) (b : List (Names × B)) (q : Names) → f q None None ≡ None → at (build (λ j. f j (at a j) (at b j)) (union (keys a) (keys b))) q ≡ f q (at a q) (at b q)
  at_joined a b q none =
      at-built (λ j. f j (at a j) (at b j)) (union (keys a) (keys b)) q
      (λ h. let p = or_parts (among (keys a) q) (among (keys b) q) (sym (among-union (keys a) (keys b) q) ∙ h) in
      ap (λ x. f q x (at b q)) (at-missing a q p.0) ∙ (ap (λ y. f q None y) (at-missing b q p.1) ∙ none))
