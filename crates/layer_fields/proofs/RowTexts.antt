-- The path of a row, and the text that it was read from. Assumes nothing.
use Rattle.std.proofs.Common.{◌≡◌, ℕ, zero, suc, ◌+◌, ◌-◌, ◌<◌, Bool, true, false, cond, eqb, List, [], ◌∷◌, ◌++◌, length, get_or, take, drop, Some, None, Ok, Err, Option, Result, sym, refl, ap, ◌∙◌, subst, append_assoc, arith}
use Rattle.std.proofs.lemmas.List.{length-append, length-drop, get_or-drop, take_at}
use Rattle.std.proofs.lemmas.Bool.{true≢false, and_parts, eqb-true, eqb-false}
use Rattle.std.specs.List.{AllByRecursion as All}
use Rattle.paths.specs.declared.PathFault.{PathFault}
use Rattle.paths.specs.Pieces.{front, later, pieces}
use Rattle.paths.specs.Names.{split, join, begins, parent, last_name, fault, judge, judged}
use Rattle.paths.specs.Steps.{map_err}
use Rattle.paths.proofs.Granted.{mapped_ok}
use Rattle.paths.proofs.Joins.{join-pieces, join_split, pieces-append}
use Rattle.paths.proofs.Steps.{last_split, last_none, pieces_whole}
use Rattle.rows.specs.Maps.{Names}
use Rattle.rows.proofs.Orders.{as_child, last_child}
use Rattle.trees.specs.Entries.{fine}
use Rattle.trees.proofs.Fine.{judged-fine}
use Rattle.layer_fields.proofs.ReadTexts.{head_text, join-head}
use Rattle.layer_fields.specs.declared.fault.Cause.TheVariants.{Path}
use Rattle.layer_fields.specs.Texts.{whiteout_prefix, last_of, before_last, whiteout_text, has_whiteout_prefix, without_prefix, whiteout_path, row_path}

begins_back : (a b : List ℕ) → begins a b ≡ true → b ≡ a ++ drop (length a) b
begins_back [] b h = refl
begins_back (x ∷ a) [] h = absurd (true≢false (sym h))
begins_back (x ∷ a) (y ∷ b) h =
    let p = and_parts (eqb y x) (begins a b) h in
    λ i. eqb-true y x p.0 i ∷ begins_back a b p.1 i

-- ---- the last name

-- no byte is a `/`
abbrev Unslashed : List ℕ → Type 0
Unslashed s = (k : ℕ) → k < length s → get_or s k 0 ≡ 47 → ⊥

front_unslashed : (s : List ℕ) → Unslashed (front 47 s)
front_unslashed [] k l e = omega arith
front_unslashed (b ∷ bs) k l e = go (eqb b 47) refl (front_unslashed bs) k l e where
  go : (t : Bool) → eqb b 47 ≡ t → Unslashed (front 47 bs) → Unslashed (cond t [] (b ∷ front 47 bs))
  go true e h k l z = omega arith
  go false e h zero l z = eqb-false b 47 e z
  go false e h (suc k) l z = h k (omega arith) z

later_unslashed : (s : List ℕ) → All Unslashed (later 47 s)
later_unslashed [] = tt
later_unslashed (b ∷ bs) =
    elim (eqb b 47) as (λ t. All Unslashed (cond t (pieces 47 bs) (later 47 bs))) [ true ↦ (front_unslashed bs, later_unslashed bs) | false ↦ later_unslashed bs ]

one_unslashed : (n : List ℕ) (ns : Names) → All Unslashed (n ∷ ns) → Unslashed (last_name (n ∷ ns))
one_unslashed n [] h = h.0
one_unslashed n (m ∷ ns) h = one_unslashed m ns h.1

last_unslashed : (s : List ℕ) → Unslashed (last_of s)
last_unslashed s = subst Unslashed (sym (last_split s)) (one_unslashed (front 47 s) (later 47 s) (front_unslashed s, later_unslashed s))

-- a last name behind the text of a path
module _ (n : List ℕ) (u : Unslashed n) where
  last_headed : (p : Names) → last_of (head_text p ++ n) ≡ n
  last_headed [] = last_none n u
  last_headed (k ∷ p) =
      let t = join (k ∷ p) in
      ap last_of (append_assoc t (47 ∷ []) n) ∙ last_split (t ++ 47 ∷ n) ∙ ap last_name (pieces-append t n ∙ ap (λ ps. pieces 47 t ++ ps) (pieces_whole n u)) ∙ last_child (pieces 47 t) n

  before_headed : (p : Names) → before_last (head_text p ++ n) ≡ head_text p
  before_headed p =
      let long : length (head_text p ++ n) - length (last_of (head_text p ++ n)) ≡ length (head_text p) = omega (arith, length-append (head_text p) n, ap length (last_headed p)) in
      ap (λ k. take k (head_text p ++ n)) long ∙ take_at (head_text p) n (length (head_text p)) refl

-- a text is that of a path, and its last name
headed : (s : List ℕ) → (p : Names) × (s ≡ head_text p ++ last_of s)
headed [] = ([], refl)
headed (b ∷ bs) =
    let p = parent (pieces 47 (b ∷ bs)) in
    (p, sym (join-pieces (b ∷ bs)) ∙ ap join (as_child (front 47 (b ∷ bs)) (later 47 (b ∷ bs))) ∙ join-head p (last_of (b ∷ bs)))

-- ---- the text of a path that was read

judged-text : (s : List ℕ) (p : Names) → judge s ≡ Ok p → join p ≡ s
judged-text s p h = go (fault s) h where
  go : (o : Option PathFault) → judged (split s) o ≡ Ok p → join p ≡ s
  go None h =
      let is : split s ≡ p = cc in
      sym (ap join is) ∙ join_split s
  go (Some e) h = cc

whiteout_ok : (r : Result Names PathFault) (p : Names) → whiteout_path r ≡ Ok p → r ≡ Ok p
whiteout_ok (Ok []) p h = cc
whiteout_ok (Ok (n ∷ q)) p h =
    let is : n ∷ q ≡ p = cc in
    ap Ok is
whiteout_ok (Err e) p h = cc

module _ (s : List ℕ) (p : Names) where
  whiteout_is : has_whiteout_prefix s ≡ true → row_path s ≡ Ok p → judge (without_prefix s) ≡ Ok p
  whiteout_is w h = whiteout_ok (judge (without_prefix s)) p (sym (ap (λ t. cond t (whiteout_path (judge (without_prefix s))) (map_err Path (judge s))) w) ∙ h)

  held_is : has_whiteout_prefix s ≡ false → row_path s ≡ Ok p → judge s ≡ Ok p
  held_is w h = mapped_ok Path (judge s) p (sym (ap (λ t. cond t (whiteout_path (judge (without_prefix s))) (map_err Path (judge s))) w) ∙ h)

  pub path_written : has_whiteout_prefix s ≡ false → row_path s ≡ Ok p → s ≡ join p
  path_written w h = sym (judged-text s p (held_is w h))

  pub whiteout_written : has_whiteout_prefix s ≡ true → row_path s ≡ Ok p → s ≡ whiteout_text p
  whiteout_written w h =
      let n = last_of s in
      let q = headed s in
      let u : Unslashed (drop 4 n) = λ k lt e. last_unslashed s (4 + k) (omega (arith, length-drop 4 n)) (sym (get_or-drop 4 n k 0) ∙ e) in
      let head : before_last s ≡ head_text q.0 = ap before_last q.1 ∙ before_headed n (last_unslashed s) q.0 in
      let text : join p ≡ head_text q.0 ++ drop 4 n = judged-text (without_prefix s) p (whiteout_is w h) ∙ ap (λ f. f ++ drop 4 n) head in
      let first : before_last (join p) ≡ head_text q.0 = ap before_last text ∙ before_headed (drop 4 n) u q.0 in
      let last : last_of (join p) ≡ drop 4 n = ap last_of text ∙ last_headed (drop 4 n) u q.0 in
      q.1 ∙ ap (λ z. head_text q.0 ++ z) (begins_back whiteout_prefix n w) ∙ sym (λ i. first i ++ (whiteout_prefix ++ last i))

  pub row_path_fine : row_path s ≡ Ok p → fine p ≡ true
  row_path_fine h = go (has_whiteout_prefix s) h where
    go : (t : Bool) → cond t (whiteout_path (judge (without_prefix s))) (map_err Path (judge s)) ≡ Ok p → fine p ≡ true
    go true h = judged-fine (without_prefix s) p (whiteout_ok (judge (without_prefix s)) p h)
    go false h = judged-fine s p (mapped_ok Path (judge s) p h)
