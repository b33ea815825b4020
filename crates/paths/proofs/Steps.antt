-- What the code finds in texts, and writes. Assumes nothing.
use Rattle.std.proofs.Common.{◌≡◌, ℕ, zero, suc, Option, ◌+◌, ◌-◌, ◌<◌, ◌≤◌, Bool, true, false, cond, ◌&&◌, eqb, List, [], ◌∷◌, ◌++◌, length, get_or, take, drop, set, replicate, take-append-drop, sym, refl, ap, subst, ◌∙◌, add-one, arith}
use Rattle.std.proofs.lemmas.List.{drop_more, drop_all, drop_at, drop-replicate, take_more_set, length-set, append_assoc, length-drop, get_or-drop}
use Rattle.std.proofs.lemmas.Slice.{take-put_mid}
use borrow.Rule.Slice.PartMut.{put_mid}
use Rattle.std.proofs.lemmas.Bool.{and_parts, true≢false, eqb-true, eqb-false, eq-eqb, ne_eqb}
use Rattle.std.specs.List.{filter, enumerate_from, slice_split, slice_get}
use Rattle.std.specs.Option.{option_map, unwrap_or}
use Rattle.std.specs.Cmp.Lexicographic.{pointwise}
use Rattle.paths.specs.Pieces.{front, later, pieces}
use Rattle.paths.specs.Names.{split, join, last_name}
use Rattle.paths.specs.Order.{goes_on}
use Rattle.std.proofs.lemmas.List.FromFn.{length-enumerate_from, get_or-enumerate_from}
use Rattle.paths.proofs.Fronts.{split_pieces, later_stop, later_go, front_stop, front_go}
use Rattle.paths.proofs.Joins.{join-cons, head_more, pieces-append}

-- ---- the names with their places

abbrev pub placed : List ℕ → List (ℕ × List ℕ)
placed s = enumerate_from 0 (slice_split (λ b. eqb b 47) s)

pub placed_turn : (s : List ℕ) (k i : ℕ) (n : List ℕ) → k < length (placed s) → ◌≡◌ {A = ℕ × List ℕ} (i, n) (get_or (placed s) k (i, n)) → (i ≡ k) × (drop k (pieces 47 s) ≡ n ∷ drop (k + 1) (pieces 47 s))
placed_turn s k i n lt e =
    let ps = slice_split (λ b. eqb b 47) s in
    let l : k < length ps = omega (arith, length-enumerate_from 0 ps) in
    let at = e ∙ get_or-enumerate_from 0 ps k (i, n) l in
    let first : i ≡ k = omega (arith, ap (λ p. p.0) at) in
    let here : drop k ps ≡ n ∷ drop (k + 1) ps = drop_more ps k n l ∙ ap (λ m. m ∷ drop (k + 1) ps) (sym (ap (λ p. p.1) at)) in
    (first, subst (λ qs. drop k qs ≡ n ∷ drop (k + 1) qs) (split_pieces 47 s) here)

pub placed_end : (s : List ℕ) (k : ℕ) → k ≡ length (placed s) → drop k (pieces 47 s) ≡ []
placed_end s k e = drop_all k (pieces 47 s) (omega (arith, length-enumerate_from 0 (slice_split (λ b. eqb b 47) s), ap length (split_pieces 47 s)))

-- ---- a text that goes on

pub goes_rest : (a b : List ℕ) → pointwise eqb (take (length a) b) a ≡ true → goes_on a b ≡ goes_on [] (drop (length a) b)
goes_rest [] b h = refl
goes_rest (x ∷ a) [] h = absurd (true≢false (sym h))
goes_rest (x ∷ a) (y ∷ b) h =
    let p = and_parts (eqb y x) (pointwise eqb (take (length a) b) a) h in
    ap (λ t. t && goes_on a b) (eq-eqb x y (sym (eqb-true y x p.0))) ∙ goes_rest a b p.1

pub goes_off : (a b : List ℕ) → pointwise eqb (take (length a) b) a ≡ false → goes_on a b ≡ false
goes_off [] b h = absurd (true≢false h)
goes_off (x ∷ a) [] h = refl
goes_off (x ∷ a) (y ∷ b) h = go (eqb y x) refl (goes_off a b) h where
  go : (t : Bool) → eqb y x ≡ t → (pointwise eqb (take (length a) b) a ≡ false → goes_on a b ≡ false) → (t && pointwise eqb (take (length a) b) a) ≡ false → (eqb x y && goes_on a b) ≡ false
  go true e more g = ap (λ t. t && goes_on a b) (eq-eqb x y (sym (eqb-true y x e))) ∙ more g
  go false e more g = ap (λ t. t && goes_on a b) (ne_eqb x y (λ z. eqb-false y x e (sym z)))

-- ---- where the k-th name ends

-- how long the first k pieces are
abbrev pub span : ℕ → List ℕ → ℕ
span k s = length (join (take k (pieces 47 s)))

span_stop : (b : ℕ) (bs : List ℕ) (n : ℕ) → b ≡ 47 → span (suc (suc n)) (b ∷ bs) ≡ suc (span (suc n) bs)
span_stop b bs n e = λ j. length (join (take (suc (suc n)) (front_stop 47 b bs e j ∷ later_stop 47 b bs e j)))

span_go : (b : ℕ) (bs : List ℕ) (n : ℕ) → (b ≡ 47 → ⊥) → span (suc n) (b ∷ bs) ≡ suc (span (suc n) bs)
span_go b bs n e =
    (λ j. length (join (take (suc n) (front_go 47 b bs e j ∷ later_go 47 b bs e j)))) ∙ ap length (join-cons b (front 47 bs) (take n (later 47 bs)))

-- the places of the bytes `/`, where the first byte stands at i
abbrev slashes : ℕ → List ℕ → List (ℕ × ℕ)
slashes i s = filter (λ p. eqb p.1 47) (enumerate_from i s)

abbrev pub place_or : ℕ → Option (ℕ × ℕ) → ℕ
place_or d o = unwrap_or (option_map (λ p. p.0) o) d

pub span_place : (s : List ℕ) (n i : ℕ) → place_or (i + length s) (slice_get (slashes i s) n) ≡ i + span (suc n) s
span_place [] zero i = refl
span_place [] (suc n) i = refl
span_place (b ∷ bs) n i = go (eqb b 47) refl (λ m. span_place bs m (i + 1)) n where
  shift : (m : ℕ) → i + suc m ≡ i + 1 + m
  shift m = omega arith

  go : (t : Bool) → eqb b 47 ≡ t → ((n : ℕ) → place_or (i + 1 + length bs) (slice_get (slashes (i + 1) bs) n) ≡ i + 1 + span (suc n) bs) → (n : ℕ) → place_or (i + suc (length bs)) (slice_get (cond t ((i, b) ∷ slashes (i + 1) bs) (slashes (i + 1) bs)) n) ≡ i + span (suc n) (b ∷ bs)
  go true e more zero = omega (arith, ap length (front_stop 47 b bs (eqb-true b 47 e)))
  go true e more (suc n) =
      rw (shift (length bs)) (more n ∙ sym (shift (span (suc n) bs)) ∙ ap (λ m. i + m) (sym (span_stop b bs n (eqb-true b 47 e))))
  go false e more n =
      rw (shift (length bs)) (more n ∙ sym (shift (span (suc n) bs)) ∙ ap (λ m. i + m) (sym (span_go b bs n (eqb-false b 47 e))))

pub span-split : (s : List ℕ) (k : ℕ) → length (join (take k (split s))) ≡ span k s
span-split [] zero = refl
span-split [] (suc zero) = refl
span-split [] (suc (suc k)) = refl
span-split (b ∷ bs) k = refl

-- ---- where the next name ends

-- how much one name more takes, behind the first ones: with the `/` before it
abbrev more : List ℕ → ℕ
more [] = 0
more (b ∷ bs) = suc (length (front 47 bs))

span_next : (s : List ℕ) (k : ℕ) → span (suc (suc k)) s ≡ span (suc k) s + more (drop (span (suc k) s) s)
span_next [] zero = refl
span_next [] (suc k) = refl
span_next (b ∷ bs) k = go (eqb b 47) refl (λ j. span_next bs j) k where
  on : (p q r : ℕ) → p ≡ suc q → r ≡ q + more (drop q bs) → suc r ≡ p + more (drop p (b ∷ bs))
  on p q r e h =
      let first : suc r ≡ suc q + more (drop q bs) = omega arith in
      subst (λ n. suc r ≡ n + more (drop n (b ∷ bs))) (sym e) first

  go : (t : Bool) → eqb b 47 ≡ t → ((j : ℕ) → span (suc (suc j)) bs ≡ span (suc j) bs + more (drop (span (suc j) bs) bs)) → (k : ℕ) → span (suc (suc k)) (b ∷ bs) ≡ span (suc k) (b ∷ bs) + more (drop (span (suc k) (b ∷ bs)) (b ∷ bs))
  go true e rest zero =
      let stop = eqb-true b 47 e in
      let none : length (front 47 (b ∷ bs)) ≡ 0 = ap length (front_stop 47 b bs stop) in
      let first : suc (length (front 47 bs)) ≡ 0 + suc (length (front 47 bs)) = omega arith in
      span_stop b bs zero stop ∙ subst (λ n. suc (length (front 47 bs)) ≡ n + more (drop n (b ∷ bs))) (sym none) first
  go true e rest (suc k) =
      let stop = eqb-true b 47 e in
      span_stop b bs (suc k) stop ∙ on _ _ _ (span_stop b bs k stop) (rest k)
  go false e rest k =
      let goes = eqb-false b 47 e in
      span_go b bs (suc k) goes ∙ on _ _ _ (span_go b bs k goes) (rest k)

names_long : (s : List ℕ) (k : ℕ) → length (join (take (k + 1) (split s))) ≡ span (suc k) s
names_long s k = ap (λ n. length (join (take n (split s)))) (add-one k) ∙ span-split s (suc k)

pub next_first : (s : List ℕ) → length (join (take (0 + 1) (split s))) ≡ length (front 47 s)
next_first s = names_long s 0

-- behind the last name there is none
pub next_none : (s : List ℕ) (k end : ℕ) → end ≡ length (join (take k (split s))) → length s ≤ end → end ≡ length (join (take (k + 1) (split s)))
next_none [] zero end is e = is
next_none (b ∷ bs) zero end is e = absurd (omega arith)
next_none s (suc k) end is e =
    let here = is ∙ span-split s (suc k) in
    let last = drop_all end s (omega arith) in
    omega (arith, names_long s (suc k), span_next s k, here, ap (λ n. more (drop n s)) here, ap more last)

pub next_some : (s : List ℕ) (k end : ℕ) → 0 < k → end ≡ length (join (take k (split s))) → end < length s → end + 1 + length (front 47 (drop (end + 1) s)) ≡ length (join (take (k + 1) (split s)))
next_some s zero end some is lt = absurd (omega arith)
next_some s (suc k) end some is lt =
    let here = is ∙ span-split s (suc k) in
    let next = drop_more s end 0 lt in
    omega (arith, names_long s (suc k), span_next s k, here, ap (λ n. more (drop n s)) here, ap more next)

-- ---- the last name

pub last_split : (s : List ℕ) → last_name (split s) ≡ last_name (pieces 47 s)
last_split [] = refl
last_split (b ∷ bs) = refl

-- with no `/` there is one piece
pub pieces_whole : (s : List ℕ) → ((k : ℕ) → k < length s → get_or s k 0 ≡ 47 → ⊥) → pieces 47 s ≡ s ∷ []
pieces_whole [] h = refl
pieces_whole (b ∷ bs) h =
    let n : b ≡ 47 → ⊥ = h 0 (omega arith) in
    let whole = pieces_whole bs (λ k lt. h (suc k) (omega arith)) in
    (λ j. front_go 47 b bs n j ∷ later_go 47 b bs n j) ∙ head_more b bs whole

pub last_child : (ps : List (List ℕ)) (n : List ℕ) → last_name (ps ++ n ∷ []) ≡ n
last_child [] n = refl
last_child (p ∷ []) n = refl
last_child (p ∷ q ∷ ps) n = last_child (q ∷ ps) n

pub last_none : (s : List ℕ) → ((k : ℕ) → k < length s → get_or s k 0 ≡ 47 → ⊥) → last_name (split s) ≡ s
last_none s h = last_split s ∙ ap last_name (pieces_whole s h)

pub last_at : (s : List ℕ) (i : ℕ) → i < length s → get_or s i 0 ≡ 47 → ((k : ℕ) → i + 1 ≤ k → k < length s → get_or s k 0 ≡ 47 → ⊥) → last_name (split s) ≡ drop (i + 1) s
last_at s i lt e h =
    let rest = drop (i + 1) s in
    let cut : s ≡ take i s ++ 47 ∷ rest = sym (take-append-drop i s) ∙ ap (λ l. take i s ++ l) (drop_more s i 0 lt ∙ ap (λ b. b ∷ rest) e) in
    let whole = pieces_whole rest (λ k inside z. h (i + 1 + k) (omega arith) (omega (arith, length-drop (i + 1) s)) (sym (get_or-drop (i + 1) s k 0) ∙ z)) in
    last_split s ∙ ap (λ l. last_name (pieces 47 l)) cut ∙ ap last_name (pieces-append (take i s) rest ∙ ap (λ ps. pieces 47 (take i s) ++ ps) whole) ∙ last_child (pieces 47 (take i s)) rest

-- ---- a text in an array

pub padded_rest : (bs ys : List ℕ) → ys ≡ bs → drop (length bs) (ys ++ drop (length bs) (replicate 120 0)) ≡ replicate (120 - length bs) 0
padded_rest bs ys is =
    drop_at ys (drop (length bs) (replicate 120 0)) (length bs) (ap length is) ∙ drop-replicate (length bs) 120 0

-- a text, a `/` and a name, written into an array
module _ (bytes ys name : List ℕ) (n : ℕ) (is : ys ≡ name) (fits : n + 1 + length name ≤ length bytes) where
  pub extended_text : take (n + 1 + length name) (put_mid (n + 1) (n + 1 + length name - (n + 1)) (set bytes n 47) ys) ≡ take n bytes ++ 47 ∷ name
  extended_text =
      let long : n + 1 ≤ length (set bytes n 47) = simp length-set (omega arith) in
      let end : n + 1 + length name ≡ n + 1 + length ys = omega (arith, ap length is) in
      let within : n < length bytes = omega arith in
      take-put_mid (n + 1) (n + 1 + length name - (n + 1)) (set bytes n 47) ys _ end long ∙ (λ j. take_more_set bytes n 47 within j ++ is j) ∙ append_assoc (take n bytes) (47 ∷ []) name
