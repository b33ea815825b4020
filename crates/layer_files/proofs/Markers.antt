-- The text of a directory's marker, in parts. Assumes nothing.
use Rattle.std.proofs.Common.{◌≡◌, ℕ, ◌+◌, ◌<◌, Bool, true, false, ◌&&◌, eqb, List, [], ◌∷◌, ◌++◌, length, take, drop, Some, None, Option, Bor, MatchOption, sym, refl, ap, ◌∙◌, arith}
use Rattle.std.proofs.lemmas.Bool.{true≢false}
use Rattle.std.proofs.Math.Bool.{and_assoc}
use Rattle.std.specs.Cmp.Lexicographic.{pointwise}
use Rattle.paths.specs.Names.{split, same}
use Rattle.paths.proofs.Joins.{join-child}
use Rattle.layer_fields.specs.Texts.{opaque_name, marker_text}

-- a text is a and b, if it begins with a, and the rest is b
same_parts : (a b s : List ℕ) → same (a ++ b) s ≡ (pointwise eqb (take (length a) s) a && same b (drop (length a) s))
same_parts [] b s = refl
same_parts (x ∷ a) b [] = refl
same_parts (x ∷ a) b (y ∷ s) =
    ap (λ t. eqb y x && t) (same_parts a b s) ∙ sym (and_assoc (eqb y x) (pointwise eqb (take (length a) s) a) (same b (drop (length a) s)))

-- but in the root, the marker's text is the directory's, a `/` and the name
marker_below : (d s : List ℕ) → 0 < length d → same (marker_text (split d)) s ≡ (pointwise eqb (take (length d) s) d && same (47 ∷ opaque_name) (drop (length d) s))
marker_below d s h = ap (λ t. same t s) (join-child d opaque_name h) ∙ same_parts d (47 ∷ opaque_name) s

marker_rest : (r : List ℕ) → same (47 ∷ opaque_name) r ≡ (pointwise eqb (take 1 r) (47 ∷ []) && same opaque_name (drop 1 r))
marker_rest r = same_parts (47 ∷ []) opaque_name r

-- ---- as it is taken apart

pub marker_off : (d s : List ℕ) → pointwise eqb (take (length d) s) d ≡ false → same (marker_text (split d)) s ≡ false
marker_off [] s h = absurd (true≢false h)
marker_off (x ∷ d) s h = marker_below (x ∷ d) s (omega arith) ∙ ap (λ t. t && same (47 ∷ opaque_name) (drop (length (x ∷ d)) s)) h

-- what stands behind a `/`, if one is there
pub marker_tail : (d s rest : List ℕ) → 0 < length d → pointwise eqb (take (length d) s) d ≡ true → rest ≡ drop (length d) s → (o : Option (Bor (List ℕ))) → MatchOption o (pointwise eqb (take 1 rest) (47 ∷ []) ≡ false) (λ x. (pointwise eqb (take 1 rest) (47 ∷ []) ≡ true) × (x.now ≡ drop 1 rest) × (length x.now + 1 ≡ length rest)) → (b : Bool) → MatchOption o (b ≡ false) (λ x. b ≡ same opaque_name x.now) → b ≡ same (marker_text (split d)) s
marker_tail d s rest some h is o cut b asked = by o cut asked ∙ sym whole where
  whole : same (marker_text (split d)) s ≡ (pointwise eqb (take 1 rest) (47 ∷ []) && same opaque_name (drop 1 rest))
  whole = marker_below d s some ∙ ap (λ t. t && same (47 ∷ opaque_name) (drop (length d) s)) h ∙ ap (same (47 ∷ opaque_name)) (sym is) ∙ marker_rest rest

  by : (o : Option (Bor (List ℕ))) → MatchOption o (pointwise eqb (take 1 rest) (47 ∷ []) ≡ false) (λ x. (pointwise eqb (take 1 rest) (47 ∷ []) ≡ true) × (x.now ≡ drop 1 rest) × (length x.now + 1 ≡ length rest)) → MatchOption o (b ≡ false) (λ x. b ≡ same opaque_name x.now) → b ≡ (pointwise eqb (take 1 rest) (47 ∷ []) && same opaque_name (drop 1 rest))
  by None c a = a ∙ sym (ap (λ t. t && same opaque_name (drop 1 rest)) c)
  by (Some x) c a = a ∙ ap (same opaque_name) c.1 ∙ sym (ap (λ t. t && same opaque_name (drop 1 rest)) c.0)
