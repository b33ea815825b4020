-- The texts that are written of whiteouts and markers read back. Assumes nothing.
use Rattle.std.proofs.Common.{◌≡◌, ℕ, ◌+◌, ◌-◌, ◌<◌, ◌≤◌, true, false, List, [], ◌∷◌, ◌++◌, length, take, drop, is_some, Ok, sym, refl, ap, ◌∙◌, subst, append_assoc, arith}
use Rattle.std.proofs.lemmas.List.{length-append, take_at}
use Rattle.std.proofs.lemmas.Bool.{both_ways, or_parts, cond-true, cond-false, false_from_ne_true}
use Rattle.paths.specs.Names.{join, plain, parent, last_name, same, begins, reserved, good_name, fault_in, judge}
use Rattle.paths.specs.Steps.{map_err}
use Rattle.paths.proofs.Joins.{Plain, split_join, join-append, fault_parts, name_parts, plain-from-fault, fault-take, parent-take}
use Rattle.paths.proofs.Tests.{same-itself, same-exact}
use Rattle.rows.specs.Maps.{Names}
use Rattle.rows.proofs.Orders.{as_child, last_child}
use Rattle.trees.specs.Entries.{fine}
use Rattle.trees.proofs.Answering.{fine_parts}
use Rattle.trees.proofs.Fine.{all_append, split-fine, judge-fine, plain-names, fine-short}
use Rattle.layer_fields.specs.declared.fault.Cause.TheVariants.{Path}
use Rattle.layer_fields.specs.Texts.{whiteout_prefix, opaque_name, last_of, before_last, whiteout_text, marker_text, is_marker, has_whiteout_prefix, without_prefix, whiteout_path, row_path}

-- ---- a path and one name more

-- what stands before that name in the text
abbrev pub head_text : Names → List ℕ
head_text [] = []
head_text (n ∷ p) = join (n ∷ p) ++ 47 ∷ []

pub join-head : (q : Names) (x : List ℕ) → join (q ++ x ∷ []) ≡ head_text q ++ x
join-head [] x = refl
join-head (n ∷ q) x = join-append n x q [] ∙ sym (append_assoc (join (n ∷ q)) (47 ∷ []) x)

head-short : (q : Names) → length (head_text q) ≤ length (join q) + 1
head-short [] = omega arith
head-short (n ∷ q) = omega (arith, length-append (join (n ∷ q)) (47 ∷ []))

-- plain names and one more, which no good path need have
module _ (q : Names) (x : List ℕ) (h : Plain (q ++ x ∷ [])) where
  last-is : last_of (join (q ++ x ∷ [])) ≡ x
  last-is = ap last_name (split_join (q ++ x ∷ []) h) ∙ last_child q x

  before-is : before_last (join (q ++ x ∷ [])) ≡ head_text q
  before-is =
      let s = join (q ++ x ∷ []) in
      let l : length s - length (last_of s) ≡ length (head_text q) = omega (arith, ap length last-is, ap length (join-head q x), length-append (head_text q) x) in
      ap (λ t. take (length s - length (last_of s)) t) (join-head q x) ∙ take_at (head_text q) x (length s - length (last_of s)) (sym l)

plain-more : (q : Names) (x : List ℕ) → Plain q → 0 < length x → plain x ≡ true → Plain (q ++ x ∷ [])
plain-more q x h l g = all_append (λ n. (0 < length n) × (plain n ≡ true)) q (x ∷ []) h ((l, g), tt)

-- ---- the last name of a good path

last-good : (k : ℕ) (n : List ℕ) (p : Names) → is_some (fault_in k (n ∷ p)) ≡ false → good_name (last_name (n ∷ p)) ≡ true
last-good k n [] h = (fault_parts k n [] h).1
last-good k n (m ∷ p) h = last-good (k + 1) m p (fault_parts k n (m ∷ p) h).2

not-begun : (n : List ℕ) → reserved n ≡ false → begins whiteout_prefix n ≡ false
not-begun n h =
    let a = or_parts (same (46 ∷ []) n) _ h in
    (or_parts (same (46 ∷ 46 ∷ []) n) (begins whiteout_prefix n) a.1).1

-- a name that begins with `.wh.` is not the one that does not
not-same : (s n : List ℕ) → begins whiteout_prefix s ≡ true → begins whiteout_prefix n ≡ false → same s n ≡ false
not-same s n b h = false_from_ne_true (same s n) (λ e. both_ways (begins whiteout_prefix n) h (ap (begins whiteout_prefix) (same-exact s n e) ∙ b))

last-begun : (p : Names) → is_some (fault_in 0 p) ≡ false → begins whiteout_prefix (last_name p) ≡ false
last-begun [] h = refl
last-begun (n ∷ p) h = not-begun (last_name (n ∷ p)) (name_parts (last_name (n ∷ p)) (last-good 0 n p h)).3

-- ---- the text of a good path

module _ (p : Names) (f : fine p ≡ true) where
  pub path-no-prefix : has_whiteout_prefix (join p) ≡ false
  path-no-prefix = ap (λ q. begins whiteout_prefix (last_name q)) (split-fine p f) ∙ last-begun p (fine_parts p f).0

  pub path-no-marker : is_marker (join p) ≡ false
  path-no-marker = not-same opaque_name (last_of (join p)) refl path-no-prefix

  pub path-back : row_path (join p) ≡ Ok p
  path-back =
      cond-false (has_whiteout_prefix (join p)) (whiteout_path (judge (without_prefix (join p)))) (map_err Path (judge (join p))) path-no-prefix ∙ ap (map_err Path) (judge-fine p f)

  -- ---- its marker

  marker-plain : Plain (p ++ opaque_name ∷ [])
  marker-plain = plain-more p opaque_name (plain-names p f) (omega arith) refl

  marker-is : is_marker (marker_text p) ≡ true
  marker-is = ap (same opaque_name) (last-is p opaque_name marker-plain) ∙ same-itself opaque_name

  -- no other text is the marker
  pub marker-alone : (s : List ℕ) → is_marker s ≡ false → same (marker_text p) s ≡ false
  marker-alone s h =
      false_from_ne_true (same (marker_text p) s) (λ e. both_ways (is_marker s) h (ap is_marker (same-exact (marker_text p) s e) ∙ marker-is))

  pub marker-short : length (marker_text p) ≤ 133
  marker-short = omega (arith, ap length (join-head p opaque_name), length-append (head_text p) opaque_name, head-short p, fine-short p f)

-- ---- the text of a whiteout

module _ (n : List ℕ) (r : Names) (f : fine (n ∷ r) ≡ true) where
  abbrev whole : Names
  whole = n ∷ r

  abbrev up : Names
  up = parent (n ∷ r)

  abbrev last : List ℕ
  last = last_name (n ∷ r)

  last-parts : (0 < length last) × (length last ≤ 40) × (plain last ≡ true) × (reserved last ≡ false)
  last-parts = name_parts last (last-good 0 n r (fine_parts whole f).0)

  plain-up : Plain up
  plain-up = subst Plain (parent-take whole) (plain-from-fault 0 _ (fault-take 0 (length whole - 1) whole (fine_parts whole f).0))

  is-child : join whole ≡ join (up ++ last ∷ [])
  is-child = ap join (as_child n r)

  plain-child : Plain (up ++ last ∷ [])
  plain-child = plain-more up last plain-up last-parts.0 last-parts.2

  plain-prefixed : Plain (up ++ (whiteout_prefix ++ last) ∷ [])
  plain-prefixed = plain-more up (whiteout_prefix ++ last) plain-up (omega arith) last-parts.2

  -- it is the text of a child of the parent
  whiteout-joined : whiteout_text whole ≡ join (up ++ (whiteout_prefix ++ last) ∷ [])
  whiteout-joined =
      (λ i. before_last (is-child i) ++ (whiteout_prefix ++ last_of (is-child i)))
      ∙ (λ i. before-is up last plain-child i ++ (whiteout_prefix ++ last-is up last plain-child i))
      ∙ sym (join-head up (whiteout_prefix ++ last))

  whiteout-last : last_of (whiteout_text whole) ≡ whiteout_prefix ++ last
  whiteout-last = ap last_of whiteout-joined ∙ last-is up (whiteout_prefix ++ last) plain-prefixed

  whiteout-before : before_last (whiteout_text whole) ≡ head_text up
  whiteout-before = ap before_last whiteout-joined ∙ before-is up (whiteout_prefix ++ last) plain-prefixed

  pub whiteout-prefixed : has_whiteout_prefix (whiteout_text whole) ≡ true
  whiteout-prefixed = ap (begins whiteout_prefix) whiteout-last

  pub whiteout-no-marker : is_marker (whiteout_text whole) ≡ false
  whiteout-no-marker =
      ap (same opaque_name) whiteout-last ∙ not-same (drop 4 opaque_name) last refl (not-begun last last-parts.3)

  without_prefix-back : without_prefix (whiteout_text whole) ≡ join whole
  without_prefix-back = (λ i. whiteout-before i ++ drop 4 (whiteout-last i)) ∙ sym (join-head up last) ∙ sym is-child

  pub whiteout-back : row_path (whiteout_text whole) ≡ Ok whole
  whiteout-back =
      cond-true (has_whiteout_prefix (whiteout_text whole)) (whiteout_path (judge (without_prefix (whiteout_text whole)))) (map_err Path (judge (whiteout_text whole))) whiteout-prefixed
      ∙ ap (λ s. whiteout_path (judge s)) without_prefix-back
      ∙ ap whiteout_path (judge-fine whole f)

  pub whiteout-short : length (whiteout_text whole) ≤ 124
  whiteout-short =
      omega (arith, ap length whiteout-joined, ap length (join-head up (whiteout_prefix ++ last)), length-append (head_text up) (whiteout_prefix ++ last), ap length is-child, ap length (join-head up last), length-append (head_text up) last, fine-short whole f)
