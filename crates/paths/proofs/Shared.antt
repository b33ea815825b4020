-- The bytes that two texts begin with, and their order past these. Assumes nothing.
use Rattle.std.proofs.Common.{◌≡◌, ℕ, zero, suc, Option, None, Some, ◌<◌, ◌≤◌, List, [], ◌∷◌, length, get_or, take, drop, sym, refl, ap, subst, ◌≢◌, ◌∙◌, arith, Equal}
use Rattle.std.proofs.lemmas.Slice.Zip.{length-zip, get_or-zip}
use Rattle.std.specs.Ordering.{ordering_then, nat_cmp}
use Rattle.std.specs.Cmp.{nat_cmp_is}
use Rattle.std.specs.List.{zip, AllWithin, HoldsAt}
use Rattle.std.specs.Option.{MatchOption, unwrap_or}
use Rattle.paths.specs.Order.{weight, by_weight}

abbrev pub Alike : ℕ × ℕ → Type 0
Alike p = p.0 ≡ p.1

abbrev pub Unlike : ℕ × ℕ → Type 0
Unlike p = p.0 ≡ p.1 → ⊥

same_start : (a b : List ℕ) (n : ℕ) → n ≤ length (zip a b) → AllWithin Alike (zip a b) 0 n → take n a ≡ take n b
same_start a b zero p h = refl
same_start [] b (suc n) p h = absurd (omega (arith, p))
same_start (x ∷ a) [] (suc n) p h = absurd (omega (arith, p))
same_start (x ∷ a) (y ∷ b) (suc n) p h =
    let here : x ≡ y = h 0 (x, y) (omega arith) (omega arith) in
    let rest = same_start a b n (omega arith) (λ k d low high. h (suc k) d (omega arith) (omega arith)) in
    λ j. here j ∷ rest j

-- r is the place of the first pair that differs
abbrev pub IsFirst : List ℕ → List ℕ → Option ℕ → Type 0
IsFirst a b r = MatchOption r (AllWithin Alike (zip a b) 0 (length (zip a b))) (λ i. (i < length (zip a b)) × HoldsAt Unlike (zip a b) i × AllWithin Alike (zip a b) 0 i)

pub same_until : (a b : List ℕ) (r : Option ℕ) (n : ℕ) → IsFirst a b r → n ≡ unwrap_or r (length (zip a b)) → take n a ≡ take n b
same_until a b None n h e = same_start a b n (omega (arith, e)) (subst (λ m. AllWithin Alike (zip a b) 0 m) (sym e) h)
same_until a b (Some i) n h e = same_start a b n (omega (arith, e, h.0)) (subst (λ m. AllWithin Alike (zip a b) 0 m) (sym e) h.2)

pub differ_after : (a b : List ℕ) (r : Option ℕ) (n : ℕ) → IsFirst a b r → n ≡ unwrap_or r (length (zip a b)) → n < length a → n < length b → get_or a n 0 ≢ get_or b n 0
differ_after a b None n h e p q = λ k. absurd (grind (arith, length-zip a b, e))
differ_after a b (Some i) n h e p q = λ k.
    let at = get_or-zip a b n (0, 0) p q in
    subst (λ m. Unlike (get_or (zip a b) m (0, 0))) (sym e) (h.1 (0, 0)) (ap (λ t. t.0) at ∙ k ∙ sym (ap (λ t. t.1) at))

-- bytes that are the same decide nothing
pub order_past : (a b : List ℕ) (n : ℕ) → n ≤ length a → n ≤ length b → take n a ≡ take n b → by_weight (drop n a) (drop n b) ≡ by_weight a b
order_past a b zero p q h = refl
order_past [] b (suc n) p q h = absurd (omega (arith, p))
order_past (x ∷ a) [] (suc n) p q h = absurd (omega (arith, q))
order_past (x ∷ a) (y ∷ b) (suc n) p q h =
    let here : x ≡ y = ap (λ l. get_or l 0 0) h in
    let even : Equal ≡ nat_cmp (weight x) (weight y) = nat_cmp_is (weight x) (weight y) Equal (ap weight here) in
    order_past a b n (omega arith) (omega arith) (ap (λ l. drop 1 l) h) ∙ ap (λ o. ordering_then o (by_weight a b)) even
