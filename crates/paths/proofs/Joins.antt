-- Texts and lists of names. Assumes nothing.
use Rattle.std.proofs.Common.{◌≡◌, ℕ, zero, suc, ◌+◌, ◌-◌, ◌<◌, ◌≤◌, Bool, true, false, cond, not, ◌&&◌, eqb, leb, ◌⊎◌, List, [], ◌∷◌, ◌++◌, length, get_or, take, drop, is_some, Some, None, sym, refl, ap, ◌∙◌, subst, inl, inr, ⊎_elim, append_assoc, append-nil, add-zero, zero-add, arith}
use Rattle.std.proofs.lemmas.List.{take_at, drop_more, length-append, length-map, get_or-map}
use Rattle.std.proofs.Math.Seq.{take-nil}
use Rattle.std.proofs.lemmas.Bool.{and_parts, not-true, cond-true, cond-false, eq-eqb, ne_eqb, eqb-true, eqb-false, leb-true, leb-false, true≢false, le-leb, lt-leb}
use Rattle.std.specs.List.{AllByRecursion as All}
use Rattle.paths.specs.declared.PathFault.{PathFault}
use Rattle.paths.specs.declared.PathFault.TheVariants.{TooLong, BadName, TooDeep}
use Rattle.paths.specs.Pieces.{front, later, pieces}
use Rattle.paths.specs.Names.{split, join, plain, reserved, good_name, fault_in, good, parent, prefixes, Under}
use Rattle.paths.specs.Order.{goes_on}
use Rattle.paths.specs.Paths.{child_fault}
use Rattle.paths.proofs.Laws.{NoZero}

-- ---- join after split

pub join-cons : (b : ℕ) (n : List ℕ) (ns : List (List ℕ)) → join ((b ∷ n) ∷ ns) ≡ b ∷ join (n ∷ ns)
join-cons b n [] = refl
join-cons b n (m ∷ ns) = refl

cut_back : (b : ℕ) (bs : List ℕ) → join (pieces 47 bs) ≡ bs → (t : Bool) → eqb b 47 ≡ t → join (cond t [] (b ∷ front 47 bs) ∷ cond t (pieces 47 bs) (later 47 bs)) ≡ b ∷ bs
cut_back b bs h true e = λ i. sym (eqb-true b 47 e) i ∷ h i
cut_back b bs h false e = join-cons b (front 47 bs) (later 47 bs) ∙ ap (λ l. b ∷ l) h

pub join-pieces : (s : List ℕ) → join (pieces 47 s) ≡ s
join-pieces [] = refl
join-pieces (b ∷ bs) = cut_back b bs (join-pieces bs) (eqb b 47) refl

pub join_split : (s : List ℕ) → join (split s) ≡ s
join_split [] = refl
join_split (b ∷ bs) = join-pieces (b ∷ bs)

-- ---- split after join

-- a text that goes on with a `/`
pub pieces-append : (a s : List ℕ) → pieces 47 (a ++ 47 ∷ s) ≡ pieces 47 a ++ pieces 47 s
pieces-append [] s = refl
pieces-append (b ∷ bs) s = go (eqb b 47) (pieces-append bs s) where
  go : (t : Bool) → pieces 47 (bs ++ 47 ∷ s) ≡ pieces 47 bs ++ pieces 47 s → ◌≡◌ {A = List (List ℕ)} (cond t [] (b ∷ front 47 (bs ++ 47 ∷ s)) ∷ cond t (pieces 47 (bs ++ 47 ∷ s)) (later 47 (bs ++ 47 ∷ s))) (cond t [] (b ∷ front 47 bs) ∷ (cond t (pieces 47 bs) (later 47 bs) ++ pieces 47 s))
  go true h = ap (λ l. [] ∷ l) h
  go false h = cc

pub head_more : (b : ℕ) (bs : List ℕ) → pieces 47 bs ≡ bs ∷ [] → ◌≡◌ {A = List (List ℕ)} ((b ∷ front 47 bs) ∷ later 47 bs) ((b ∷ bs) ∷ [])
head_more b bs h = cc

pieces-plain : (n : List ℕ) → plain n ≡ true → pieces 47 n ≡ n ∷ []
pieces-plain [] h = refl
pieces-plain (b ∷ bs) h =
    let p = (and_parts (not (eqb b 0) && leb b 255) (not (eqb b 47) && plain bs) h).1 in
    let q = and_parts (not (eqb b 47)) (plain bs) p in
    let e = not-true (eqb b 47) q.0 in
    (λ i. cond (e i) [] (b ∷ front 47 bs) ∷ cond (e i) (pieces 47 bs) (later 47 bs)) ∙ head_more b bs (pieces-plain bs q.1)

abbrev pub Plain : List (List ℕ) → Type 0
Plain ns = All (λ n. (0 < length n) × (plain n ≡ true)) ns

-- so each name is not empty
pub not_empty : (p : List (List ℕ)) (n : List ℕ) (rest : List (List ℕ)) → Plain (p ++ n ∷ rest) → 0 < length n
not_empty [] n rest h = h.0.0
not_empty (m ∷ p) n rest h = not_empty p n rest h.1

pieces-join : (n : List ℕ) (ns : List (List ℕ)) → Plain (n ∷ ns) → pieces 47 (join (n ∷ ns)) ≡ n ∷ ns
pieces-join n [] h = pieces-plain n h.0.1
pieces-join n (m ∷ ns) h =
    pieces-append n (join (m ∷ ns)) ∙ (λ i. pieces-plain n h.0.1 i ++ pieces-join m ns h.1 i)

-- a path with a name is not the root
join-some : (n : List ℕ) (ns : List (List ℕ)) → 0 < length n → 0 < length (join (n ∷ ns))
join-some [] ns h = absurd (omega arith)
join-some (b ∷ n) ns h = subst (λ l. 0 < length l) (sym (join-cons b n ns)) (omega arith)

pub split-some : (s : List ℕ) → 0 < length s → split s ≡ pieces 47 s
split-some [] h = absurd (omega arith)
split-some (b ∷ bs) h = refl

pub split_join : (ns : List (List ℕ)) → Plain ns → split (join ns) ≡ ns
split_join [] h = refl
split_join (n ∷ ns) h = split-some _ (join-some n ns h.0.0) ∙ pieces-join n ns h

-- ---- good names

-- what it says that names counted from k have no fault
pub fault_parts : (k : ℕ) (n : List ℕ) (ns : List (List ℕ)) → is_some (fault_in k (n ∷ ns)) ≡ false → (k < 8) × (good_name n ≡ true) × (is_some (fault_in (k + 1) ns) ≡ false)
fault_parts k n ns h = go (leb 8 k) (good_name n) refl refl h where
  go : (t g : Bool) → leb 8 k ≡ t → good_name n ≡ g → is_some (cond t (Some TooDeep) (cond g (fault_in (k + 1) ns) (Some (BadName k)))) ≡ false → (k < 8) × (good_name n ≡ true) × (is_some (fault_in (k + 1) ns) ≡ false)
  go true g e f h = absurd (true≢false h)
  go false true e f h = (leb-false 8 k e, f, h)
  go false false e f h = absurd (true≢false h)

pub name_parts : (n : List ℕ) → good_name n ≡ true → (0 < length n) × (length n ≤ 40) × (plain n ≡ true) × (reserved n ≡ false)
name_parts n h =
    let a = and_parts (leb 1 (length n)) _ h in
    let b = and_parts (leb (length n) 40) _ a.1 in
    let c = and_parts (plain n) (not (reserved n)) b.1 in
    (leb-true 1 (length n) a.0, leb-true (length n) 40 b.0, c.0, not-true (reserved n) c.1)

pub plain-from-fault : (k : ℕ) (ns : List (List ℕ)) → is_some (fault_in k ns) ≡ false → Plain ns
plain-from-fault k [] h = tt
plain-from-fault k (n ∷ ns) h =
    let f = fault_parts k n ns h in
    let g = name_parts n f.1 in
    ((g.0, g.2), plain-from-fault (k + 1) ns f.2)

fault-from_parts : (k : ℕ) (n : List ℕ) (ns : List (List ℕ)) → k < 8 → good_name n ≡ true → fault_in k (n ∷ ns) ≡ fault_in (k + 1) ns
fault-from_parts k n ns h g = cond-false (leb 8 k) _ _ (lt-leb 8 k h) ∙ cond-true (good_name n) _ _ g

-- one name alone, and the first of several
pub fault_on : (k : ℕ) (n : List ℕ) (ns : List (List ℕ)) → fault_in k (n ∷ []) ≡ None → fault_in k (n ∷ ns) ≡ fault_in (k + 1) ns
fault_on k n ns h =
    let f = fault_parts k n [] (ap is_some h) in
    fault-from_parts k n ns f.0 f.1

pub fault_stop : (k : ℕ) (n : List ℕ) (ns : List (List ℕ)) (e : PathFault) → fault_in k (n ∷ []) ≡ Some e → fault_in k (n ∷ ns) ≡ Some e
fault_stop k n ns e h = go (leb 8 k) (good_name n) h where
  go : (t g : Bool) → cond t (Some TooDeep) (cond g None (Some (BadName k))) ≡ Some e → cond t (Some TooDeep) (cond g (fault_in (k + 1) ns) (Some (BadName k))) ≡ Some e
  go true g h = h
  go false true h = cc
  go false false h = h

pub fault-take : (k j : ℕ) (ns : List (List ℕ)) → is_some (fault_in k ns) ≡ false → is_some (fault_in k (take j ns)) ≡ false
fault-take k zero ns h = refl
fault-take k (suc j) [] h = refl
fault-take k (suc j) (n ∷ ns) h =
    let f = fault_parts k n ns h in
    ap is_some (fault-from_parts k n (take j ns) f.0 f.1) ∙ fault-take (k + 1) j ns f.2

-- a good path is at most 120 bytes, of names without fault
pub good_parts : (s : List ℕ) → good s ≡ true → (length s ≤ 120) × (is_some (fault_in 0 (split s)) ≡ false)
good_parts s h = go (leb (length s) 120) refl (not-true _ h) where
  go : (t : Bool) → leb (length s) 120 ≡ t → is_some (cond t (fault_in 0 (split s)) (Some TooLong)) ≡ false → (length s ≤ 120) × (is_some (fault_in 0 (split s)) ≡ false)
  go true e h = (leb-true (length s) 120 e, h)
  go false e h = absurd (true≢false h)

good-from : (s : List ℕ) → length s ≤ 120 → is_some (fault_in 0 (split s)) ≡ false → good s ≡ true
good-from s l h = ap not (ap is_some (cond-true (leb (length s) 120) (fault_in 0 (split s)) (Some TooLong) (le-leb (length s) 120 l)) ∙ h)

-- ---- prefixes

-- what stands after the first k names, with its `/`
join-take : (k : ℕ) (ns : List (List ℕ)) → (rest : List ℕ) × (join ns ≡ join (take k ns) ++ rest)
join-take zero ns = (join ns, refl)
join-take (suc k) [] = ([], refl)
join-take (suc k) (n ∷ []) = ([], sym (append-nil n) ∙ ap (λ l. join (n ∷ l) ++ []) (sym (take-nil k)))
join-take (suc zero) (n ∷ m ∷ ns) = (47 ∷ join (m ∷ ns), refl)
join-take (suc (suc k)) (n ∷ m ∷ ns) =
    let h = join-take (suc k) (m ∷ ns) in
    (h.0, ap (λ l. n ++ 47 ∷ l) h.1 ∙ sym (append_assoc n (47 ∷ join (m ∷ take k ns)) h.0))

-- the k-th prefix of a good path
module _ (s : List ℕ) (k : ℕ) where
  pub cut-text : take (length (join (take k (split s)))) s ≡ join (take k (split s))
  cut-text =
      let h = join-take k (split s) in
      ap (take (length (join (take k (split s))))) (sym (join_split s) ∙ h.1) ∙ take_at (join (take k (split s))) h.0 _ refl

  pub cut_at : (t : List ℕ) (end : ℕ) → t ≡ s → end ≡ length (join (take k (split s))) → take end t ≡ join (take k (split s))
  cut_at t end is at = (λ i. take (at i) (is i)) ∙ cut-text

  cut_long : length (join (take k (split s))) ≤ length s
  cut_long =
      let h = join-take k (split s) in
      omega (arith, length-append (join (take k (split s))) h.0, ap length (sym (join_split s) ∙ h.1))

  pub cut-names : good s ≡ true → split (join (take k (split s))) ≡ take k (split s)
  cut-names g = split_join _ (plain-from-fault 0 _ (fault-take 0 k (split s) (good_parts s g).1))

  pub cut-good : good s ≡ true → good (join (take k (split s))) ≡ true
  cut-good g =
      let p = good_parts s g in
      let l = cut_long in
      good-from (join (take k (split s))) (omega arith) (ap (λ ns. is_some (fault_in 0 ns)) (cut-names g) ∙ fault-take 0 k (split s) p.1)

-- ---- one more name

pub join-append : (n m : List ℕ) (ns ms : List (List ℕ)) → join ((n ∷ ns) ++ m ∷ ms) ≡ join (n ∷ ns) ++ 47 ∷ join (m ∷ ms)
join-append n m [] ms = refl
join-append n m (o ∷ ns) ms =
    ap (λ l. n ++ 47 ∷ l) (join-append o m ns ms) ∙ sym (append_assoc n (47 ∷ join (o ∷ ns)) (47 ∷ join (m ∷ ms)))

pub fault-append : (k : ℕ) (ns ms : List (List ℕ)) → is_some (fault_in k ns) ≡ false → fault_in k (ns ++ ms) ≡ fault_in (k + length ns) ms
fault-append k [] ms h = ap (λ j. fault_in j ms) (sym (add-zero k))
fault-append k (n ∷ ns) ms h =
    let f = fault_parts k n ns h in
    fault-from_parts k n (ns ++ ms) f.0 f.1 ∙ fault-append (k + 1) ns ms f.2 ∙ ap (λ j. fault_in j ms) (shift k (length ns)) where
      shift : (a b : ℕ) → a + 1 + b ≡ a + suc b
      shift a b = omega arith

pub depth_few : (k : ℕ) (ns : List (List ℕ)) → is_some (fault_in k ns) ≡ false → k ≤ 8 → k + length ns ≤ 8
depth_few k [] h l = omega arith
depth_few k (n ∷ ns) h l =
    let f = fault_parts k n ns h in
    let m : k + 1 ≤ 8 = omega arith in
    let g = depth_few (k + 1) ns f.2 m in
    omega arith

-- the text of a child
pub join-child : (s name : List ℕ) → 0 < length s → join (split s ++ name ∷ []) ≡ s ++ 47 ∷ name
join-child [] name h = absurd (omega arith)
join-child (b ∷ bs) name h =
    join-append (front 47 (b ∷ bs)) name (later 47 (b ∷ bs)) [] ∙ ap (λ l. l ++ 47 ∷ name) (join-pieces (b ∷ bs))

join_first : (s name : List ℕ) → length s ≡ 0 → join (split s ++ name ∷ []) ≡ name
join_first [] name h = refl
join_first (b ∷ bs) name h = absurd (omega arith)

module _ (s name : List ℕ) (g : good s ≡ true) (few : length (split s) < 8) (ok : good_name name ≡ true) where
  all_good : is_some (fault_in 0 (split s ++ name ∷ [])) ≡ false
  all_good =
      ap is_some (fault-append 0 (split s) (name ∷ []) (good_parts s g).1 ∙ ap (λ j. fault_in j (name ∷ [])) (zero-add (length (split s))) ∙ fault-from_parts (length (split s)) name [] few ok)

  child-names : split (join (split s ++ name ∷ [])) ≡ split s ++ name ∷ []
  child-names = split_join _ (plain-from-fault 0 _ all_good)

  child-good : length (join (split s ++ name ∷ [])) ≤ 120 → good (join (split s ++ name ∷ [])) ≡ true
  child-good l = good-from _ l (ap (λ ns. is_some (fault_in 0 ns)) child-names ∙ all_good)

pub child_long : (s name : List ℕ) → length (join (split s ++ name ∷ [])) ≡ cond (eqb (length s) 0) (length name) (length s + 1 + length name)
child_long [] name = refl
child_long (b ∷ bs) name =
    let h = ap length (join-child (b ∷ bs) name (omega arith)) ∙ length-append (b ∷ bs) (47 ∷ name) in
    let e = cond-false (eqb (length (b ∷ bs)) 0) (length name) (length (b ∷ bs) + 1 + length name) (ne_eqb _ 0 (omega arith)) in
    omega arith

pub parent-take : (ns : List (List ℕ)) → take (length ns - 1) ns ≡ parent ns
parent-take [] = refl
parent-take (n ∷ []) = refl
parent-take (n ∷ m ∷ ns) =
    let e : length (n ∷ m ∷ ns) - 1 ≡ suc (length (m ∷ ns) - 1) = omega arith in
    ap (λ k. take k (n ∷ m ∷ ns)) e ∙ ap (λ l. n ∷ l) (parent-take (m ∷ ns))

-- ---- no byte of a good path is 0

no_zero_append : (a b : List ℕ) → NoZero a → NoZero b → NoZero (a ++ b)
no_zero_append [] b p q = q
no_zero_append (x ∷ a) b p q = (p.0, no_zero_append a b p.1 q)

pub no_zero_plain : (n : List ℕ) → plain n ≡ true → NoZero n
no_zero_plain [] h = tt
no_zero_plain (b ∷ bs) h =
    let p = and_parts (not (eqb b 0) && leb b 255) (not (eqb b 47) && plain bs) h in
    let q = and_parts (not (eqb b 47)) (plain bs) p.1 in
    let z = eqb-false b 0 (not-true (eqb b 0) (and_parts (not (eqb b 0)) (leb b 255) p.0).0) in
    (omega arith, no_zero_plain bs q.1)

no_zero_join : (ns : List (List ℕ)) → Plain ns → NoZero (join ns)
no_zero_join [] h = tt
no_zero_join (n ∷ []) h = no_zero_plain n h.0.1
no_zero_join (n ∷ m ∷ ns) h =
    no_zero_append n (47 ∷ join (m ∷ ns)) (no_zero_plain n h.0.1) (omega arith, no_zero_join (m ∷ ns) h.1)

pub no_zero : (s : List ℕ) → good s ≡ true → NoZero s
no_zero s g = subst NoZero (join_split s) (no_zero_join (split s) (plain-from-fault 0 (split s) (good_parts s g).1))

-- ---- one path under another

goes_means : (a b : List ℕ) → goes_on a b ≡ true → (b ≡ a) ⊎ ((s : List ℕ) × (b ≡ a ++ 47 ∷ s))
goes_means [] [] h = inl refl
goes_means [] (y ∷ ys) h = inr (ys, ap (λ k. k ∷ ys) (eqb-true y 47 h))
goes_means (x ∷ xs) [] h = absurd (true≢false (sym h))
goes_means (x ∷ xs) (y ∷ ys) h =
    let p = and_parts (eqb x y) (goes_on xs ys) h in
    let e = eqb-true x y p.0 in
    ⊎_elim (λ g. inl (λ i. sym e i ∷ g i)) (λ g. inr (g.0, λ i. sym e i ∷ g.1 i)) (goes_means xs ys p.1)

goes_itself : (a : List ℕ) → goes_on a a ≡ true
goes_itself [] = refl
goes_itself (x ∷ a) = ap (λ t. t && goes_on a a) (eq-eqb x x refl) ∙ goes_itself a

goes_further : (a s : List ℕ) → goes_on a (a ++ 47 ∷ s) ≡ true
goes_further [] s = refl
goes_further (x ∷ a) s = ap (λ t. t && goes_on a (a ++ 47 ∷ s)) (eq-eqb x x refl) ∙ goes_further a s

under-from : (x : ℕ) (a b : List ℕ) → goes_on (x ∷ a) b ≡ true → Under (split (x ∷ a)) (split b)
under-from x a b h =
    ⊎_elim
    (λ e. ([], ap split e ∙ sym (append-nil (split (x ∷ a)))))
    (λ e. (pieces 47 e.0, ap split e.1 ∙ pieces-append (x ∷ a) e.0))
    (goes_means (x ∷ a) b h)

goes_by : (x : ℕ) (a b : List ℕ) (rest : List (List ℕ)) → split b ≡ split (x ∷ a) ++ rest → goes_on (x ∷ a) b ≡ true
goes_by x a b [] e =
    let same = sym (join_split b) ∙ ap join (e ∙ append-nil (split (x ∷ a))) ∙ join_split (x ∷ a) in
    ap (goes_on (x ∷ a)) same ∙ goes_itself (x ∷ a)
goes_by x a b (m ∷ ms) e =
    let more = sym (join_split b) ∙ ap join e ∙ join-append (front 47 (x ∷ a)) m (later 47 (x ∷ a)) ms ∙ ap (λ l. l ++ 47 ∷ join (m ∷ ms)) (join-pieces (x ∷ a)) in
    ap (goes_on (x ∷ a)) more ∙ goes_further (x ∷ a) (join (m ∷ ms))

pub under_decided : (a b : List ℕ) → 0 < length a → (goes_on a b ≡ true → Under (split a) (split b)) × (Under (split a) (split b) → goes_on a b ≡ true)
under_decided [] b h = absurd (omega arith)
under_decided (x ∷ a) b h = (under-from x a b, λ u. goes_by x a b u.0 u.1)

-- the list of prefixes, and `take`
pub prefixes_long : (ns : List (List ℕ)) → length (prefixes ns) ≡ suc (length ns)
prefixes_long [] = refl
prefixes_long (n ∷ ns) = ap suc (length-map (prefixes ns) (λ p. n ∷ p) ∙ prefixes_long ns)

prefixes-at : (ns : List (List ℕ)) (k : ℕ) → k ≤ length ns → get_or (prefixes ns) k [] ≡ take k ns
prefixes-at [] zero h = refl
prefixes-at [] (suc k) h = absurd (omega arith)
prefixes-at (n ∷ ns) zero h = refl
prefixes-at (n ∷ ns) (suc k) h =
    get_or-map (λ p. n ∷ p) (prefixes ns) k [] [] (omega (arith, prefixes_long ns)) ∙ ap (λ l. n ∷ l) (prefixes-at ns k (omega arith))

pub next_prefix : (ns : List (List ℕ)) (k : ℕ) → k < length ns + 1 → drop k (prefixes ns) ≡ take k ns ∷ drop (k + 1) (prefixes ns)
next_prefix ns k h =
    drop_more (prefixes ns) k [] (omega (arith, prefixes_long ns)) ∙ ap (λ z. z ∷ drop (k + 1) (prefixes ns)) (prefixes-at ns k (omega arith))

-- ---- what is wrong with one more name

module _ (ns : List (List ℕ)) (name : List ℕ) where
  pub child_too_long : 120 < length (join (ns ++ name ∷ [])) → child_fault ns name ≡ Some TooLong
  child_too_long h = cond-false (leb (length (join (ns ++ name ∷ []))) 120) _ _ (lt-leb _ 120 h)

  pub child_short : length (join (ns ++ name ∷ [])) ≤ 120 → child_fault ns name ≡ fault_in (length ns) (name ∷ [])
  child_short h = cond-true (leb (length (join (ns ++ name ∷ []))) 120) _ _ (le-leb _ 120 h)

-- what it says that one more name has no fault
child_parts : (ns : List (List ℕ)) (name : List ℕ) → child_fault ns name ≡ None → (length (join (ns ++ name ∷ [])) ≤ 120) × (length ns < 8) × (good_name name ≡ true)
child_parts ns name h = go (leb (length (join (ns ++ name ∷ []))) 120) refl h where
  go : (t : Bool) → leb (length (join (ns ++ name ∷ []))) 120 ≡ t → cond t (fault_in (length ns) (name ∷ [])) (Some TooLong) ≡ None → (length (join (ns ++ name ∷ [])) ≤ 120) × (length ns < 8) × (good_name name ≡ true)
  go true e h =
      let f = fault_parts (length ns) name [] (ap is_some h) in
      (leb-true _ 120 e, f.0, f.1)
  go false e h = absurd (true≢false (ap is_some h))

module _ (s name : List ℕ) (g : good s ≡ true) (none : child_fault (split s) name ≡ None) where
  fine : (length (join (split s ++ name ∷ [])) ≤ 120) × (length (split s) < 8) × (good_name name ≡ true)
  fine = child_parts (split s) name none

  pub child_root : length s ≡ 0 → (good name ≡ true) × (split name ≡ split s ++ name ∷ [])
  child_root z =
      let e = join_first s name z in (
        sym (ap good e) ∙ child-good s name g fine.1 fine.2 fine.0,
        sym (ap split e) ∙ child-names s name g fine.1 fine.2,
      )

  pub child_more : 0 < length s → (length s + 1 + length name ≤ 120) × (good (s ++ 47 ∷ name) ≡ true) × (split (s ++ 47 ∷ name) ≡ split s ++ name ∷ [])
  child_more z =
      let e = join-child s name z in
      let l = ap length e ∙ length-append s (47 ∷ name) in
      let h = fine.0 in (
        omega arith,
        sym (ap good e) ∙ child-good s name g fine.1 fine.2 fine.0,
        sym (ap split e) ∙ child-names s name g fine.1 fine.2,
      )
