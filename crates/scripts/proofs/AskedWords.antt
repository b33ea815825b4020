-- The values that words can stand for. Assumes nothing.
use Rattle.std.proofs.Common.{◌≡◌, ℕ, ◌+◌, ◌-◌, ◌*◌, ◌^◌, ◌<◌, Bool, true, false, cond, ◌&&◌, eqb, ltb, leb, List, [], ◌∷◌, length, drop, Some, None, Option, refl, ◌∙◌, subst, arith}
use Rattle.std.proofs.lemmas.Bool.{and_parts, leb-true, ltb-true, eqb-true}
use Rattle.std.specs.Option.{option_map}
use Rattle.paths.specs.Names.{same, begins}
use Rattle.paths.specs.Steps.{and_then_some}
use Rattle.paths.proofs.Granted.{then_some, if_some}
use Rattle.words.specs.Printable.{printable}
use Rattle.words.specs.declared.escape.State.{State}
use Rattle.words.specs.declared.escape.State.TheVariants.{Plain, Backslash, OneDigit, TwoDigits}
use Rattle.words.specs.declared.escape.Step.{Step}
use Rattle.words.specs.declared.escape.Step.TheVariants.{To, Out}
use Rattle.words.specs.Escapes.{Sound, octal, step_of, onward, undone, unescaped}
use Rattle.words.specs.Words.{undotted}
use Rattle.trees.proofs.Fine.{Bytes}
use Rattle.mtree.specs.Numbers.{below, numeral, wide_numeral, unpadded, content_of}
use Rattle.mtree.proofs.Digits.{numeral_fits}
use Rattle.scripts.specs.Values.{path_word, name_word, mode_word, size_word}

-- ---- escapes stand for bytes

abbrev Good : Option Step → Type 0
Good None = Unit {0}
Good (Some (To s)) = Sound s
Good (Some (Out b)) = b < 256

module _ (b : ℕ) where
  step-good : (t : State) → Sound t → Good (step_of t b)
  step-good Plain h = elim (eqb b 92) as (λ u. Good (cond u (Some (To Backslash)) (cond (printable b) (Some (Out b)) None))) [ true ↦ tt | false ↦ out (printable b) refl ] where
    out : (u : Bool) → printable b ≡ u → Good (cond u (Some (Out b)) None)
    out true e =
        let top = leb-true b 126 (and_parts (leb b 126) _ (and_parts (leb 33 b) _ e).1).0 in
        omega arith
    out false e = tt
  step-good Backslash h = digit (leb 48 b && leb b 51) refl where
    digit : (u : Bool) → (leb 48 b && leb b 51) ≡ u → Good (cond u (Some (To (OneDigit (b - 48)))) None)
    digit true e =
        let top = leb-true b 51 (and_parts (leb 48 b) (leb b 51) e).1 in
        omega arith
    digit false e = tt
  step-good (OneDigit n) h = digit (octal b) refl where
    digit : (u : Bool) → octal b ≡ u → Good (cond u (Some (To (TwoDigits (n * 8 + (b - 48))))) None)
    digit true e =
        let top = leb-true b 55 (and_parts (leb 48 b) (leb b 55) e).1 in
        omega arith
    digit false e = tt
  step-good (TwoDigits n) h = digit (octal b) refl where
    digit : (u : Bool) → octal b ≡ u → Good (cond u (Some (Out (n * 8 + (b - 48)))) None)
    digit true e =
        let top = leb-true b 55 (and_parts (leb 48 b) (leb b 55) e).1 in
        omega arith
    digit false e = tt

made-bytes : (c : ℕ) → c < 256 → (o : Option (List ℕ)) → ((s : List ℕ) → o ≡ Some s → Bytes s) → (s : List ℕ) → option_map (λ l. c ∷ l) o ≡ Some s → Bytes s
made-bytes c h None on s e = cc
made-bytes c h (Some l) on s e =
    let is : c ∷ l ≡ s = cc in
    subst Bytes is (h, on l refl)

undone-bytes : (w : List ℕ) (t : State) → Sound t → (s : List ℕ) → undone t w ≡ Some s → Bytes s
unfolding undone
undone-bytes [] Plain h s e =
    let is : ◌≡◌ {A = List ℕ} [] s = cc in
    subst Bytes is tt
undone-bytes [] Backslash h s e = cc
undone-bytes [] (OneDigit n) h s e = cc
undone-bytes [] (TwoDigits n) h s e = cc
undone-bytes (b ∷ w) t h s e = go (step_of t b) (step-good b t h) (λ v k z. undone-bytes w v k z) e where
  go : (o : Option Step) → Good o → ((v : State) → Sound v → (z : List ℕ) → undone v w ≡ Some z → Bytes z) → onward o (λ v. undone v w) ≡ Some s → Bytes s
  go None g on e = cc
  go (Some (To v)) g on e = on v g s e
  go (Some (Out c)) g on e = made-bytes c g (undone Plain w) (on Plain tt) s e

drop_two : (s : List ℕ) → Bytes s → Bytes (drop 2 s)
drop_two [] h = tt
drop_two (x ∷ []) h = tt
drop_two (x ∷ y ∷ s) h = h.1.1

undotted-bytes : (s p : List ℕ) → Bytes s → undotted s ≡ Some p → Bytes p
undotted-bytes s p h = root (same (46 ∷ []) s) (begins (46 ∷ 47 ∷ []) s && ltb 2 (length s)) where
  root : (t u : Bool) → cond t (Some []) (cond u (Some (drop 2 s)) None) ≡ Some p → Bytes p
  root true u e =
      let is : ◌≡◌ {A = List ℕ} [] p = cc in
      subst Bytes is tt
  root false true e =
      let is : drop 2 s ≡ p = cc in
      subst Bytes is (drop_two s h)
  root false false e = cc

-- ---- the words

pub path-asked : (w p : List ℕ) → path_word w ≡ Some p → Bytes p
path-asked w p e =
    let q = then_some (unescaped w) undotted p e in
    undotted-bytes q.0 p (undone-bytes w Plain tt q.0 q.1) q.2

pub name-asked : (w n : List ℕ) → name_word w ≡ Some n → Bytes n
name-asked w n e = undone-bytes w Plain tt n (if_some (leb 1 (length w)) (unescaped w) n e).1

below-asked : (o : Option ℕ) (limit n : ℕ) → and_then_some o (below limit) ≡ Some n → n < limit
below-asked o limit n e =
    let q = then_some o (below limit) n e in
    let r = if_some (ltb q.0 limit) (Some q.0) n q.2 in
    let is : q.0 ≡ n = cc in
    subst (λ k. k < limit) is (ltb-true q.0 limit r.0)

pub mode-asked : (w : List ℕ) (m : ℕ) → mode_word w ≡ Some m → m < 2 ^ 16
mode-asked w m e = below-asked (numeral 8 w) 65536 m (if_some (leb 1 (length w) && leb (length w) 6) (and_then_some (numeral 8 w) (below 65536)) m e).1

pub size-asked : (w : List ℕ) (n : ℕ) → size_word w ≡ Some n → n < 2 ^ 64
size-asked w n e = below-asked (numeral 10 w) (2 ^ 64) n (if_some (leb 1 (length w) && unpadded w) (wide_numeral 10 w) n e).1

pub content-asked : (w : List ℕ) (n : ℕ) → content_of w ≡ Some n → n < 2 ^ 64
content-asked w n e =
    let q = if_some (eqb (length w) 16) (numeral 16 w) n e in
    let long = eqb-true (length w) 16 q.0 in
    below-asked (numeral 16 w) (2 ^ 64) n (numeral_fits 16 w (omega arith) (omega arith) ∙ q.1)
