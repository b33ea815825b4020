-- What is escaped is undone again. Assumes nothing.
use Rattle.std.proofs.Common.{◌≡◌, ℕ, ◌+◌, ◌-◌, ◌*◌, ◌/◌, ◌%◌, ◌<◌, Bool, true, false, cond, not, ◌&&◌, eqb, ltb, leb, List, [], ◌∷◌, ◌++◌, length, Some, None, refl, ap, ◌∙◌, arith}
use Rattle.std.proofs.lemmas.Bool.{and_parts, and_from, not-true, cond-true, cond-false, le-leb, lt-ltb}
use Rattle.std.specs.Option.{option_map}
use Rattle.paths.specs.Steps.{and_then_some}
use Rattle.words.specs.Printable.{printable}
use Rattle.trees.proofs.Fine.{Bytes}
use Rattle.listing.specs.Lines.{escape, escaped, dotted}
use Rattle.words.specs.declared.escape.State.TheVariants.{Plain, Backslash, OneDigit, TwoDigits}
use Rattle.words.specs.declared.escape.Step.TheVariants.{To, Out}
use Rattle.words.specs.Escapes.{octal, step_of, onward, undone, unescaped}
use Rattle.words.specs.Words.{undotted}

within : (a b c : ℕ) → a < b → b < c → (leb (a + 1) b && leb b (c - 1)) ≡ true
within a b c h g = and_from (leb (a + 1) b) (leb b (c - 1)) (le-leb (a + 1) b (omega arith)) (le-leb b (c - 1) (omega arith))

one : (d : ℕ) → d < 4 → step_of Backslash (48 + d) ≡ Some (To (OneDigit d))
one d h =
    cond-true (leb 48 (48 + d) && leb (48 + d) 51) _ _ (within 47 (48 + d) 52 (omega arith) (omega arith)) ∙ ap (λ n. Some (To (OneDigit n))) (omega arith)

two : (n d : ℕ) → d < 8 → step_of (OneDigit n) (48 + d) ≡ Some (To (TwoDigits (n * 8 + d)))
two n d h =
    cond-true (octal (48 + d)) _ _ (within 47 (48 + d) 56 (omega arith) (omega arith)) ∙ ap (λ m. Some (To (TwoDigits (n * 8 + m)))) (omega arith)

three : (n d : ℕ) → d < 8 → step_of (TwoDigits n) (48 + d) ≡ Some (Out (n * 8 + d))
three n d h =
    cond-true (octal (48 + d)) _ _ (within 47 (48 + d) 56 (omega arith) (omega arith)) ∙ ap (λ m. Some (Out (n * 8 + m))) (omega arith)

itself : (b : ℕ) → printable b ≡ true → step_of Plain b ≡ Some (Out b)
itself b e =
    let p = and_parts (leb 33 b) _ e in
    let q = and_parts (leb b 126) _ p.1 in
    let r = and_parts (not (eqb b 92)) _ q.1 in
    cond-false (eqb b 92) _ _ (not-true (eqb b 92) r.0) ∙ cond-true (printable b) _ _ e

module _ (b : ℕ) (w : List ℕ) (small : b < 256) where
  whole : ((b / 64) * 8 + b / 8 % 8) * 8 + b % 8 ≡ b
  whole = omega arith

  -- a byte, whichever way it is written
  undone-escape : undone Plain (escape b ++ w) ≡ option_map (λ bs. b ∷ bs) (undone Plain w)
  unfolding undone
  undone-escape = go (printable b) refl where
    go : (t : Bool) → printable b ≡ t → undone Plain (cond t (b ∷ []) (92 ∷ (48 + b / 64) ∷ (48 + b / 8 % 8) ∷ (48 + b % 8) ∷ []) ++ w) ≡ option_map (λ bs. b ∷ bs) (undone Plain w)
    go true e = ap (λ s. onward s (λ t. undone t w)) (itself b e)
    go false e =
        ap (λ s. onward s (λ t. undone t ((48 + b / 8 % 8) ∷ (48 + b % 8) ∷ w))) (one (b / 64) (omega arith))
        ∙ ap (λ s. onward s (λ t. undone t ((48 + b % 8) ∷ w))) (two (b / 64) (b / 8 % 8) (omega arith))
        ∙ ap (λ s. onward s (λ t. undone t w)) (three ((b / 64) * 8 + b / 8 % 8) (b % 8) (omega arith))
        ∙ ap (λ c. option_map (λ bs. c ∷ bs) (undone Plain w)) whole

pub undone-escaped : (s : List ℕ) → Bytes s → undone Plain (escaped s) ≡ Some s
unfolding undone
undone-escaped [] h = refl
undone-escaped (b ∷ bs) h =
    undone-escape b (escaped bs) h.0 ∙ ap (option_map (λ l. b ∷ l)) (undone-escaped bs h.1)

-- ---- the word of a path

-- `./` stands for itself
undone-dotted : (s : List ℕ) → Bytes s → unescaped (46 ∷ 47 ∷ escaped s) ≡ Some (46 ∷ 47 ∷ s)
unfolding undone
undone-dotted s h = ap (λ o. option_map (λ l. 46 ∷ l) (option_map (λ l. 47 ∷ l) o)) (undone-escaped s h)

undone_dot : unescaped (46 ∷ []) ≡ Some (46 ∷ [])
unfolding undone
undone_dot = refl

undotted_path : (b : ℕ) (bs : List ℕ) → undotted (46 ∷ 47 ∷ b ∷ bs) ≡ Some (b ∷ bs)
undotted_path b bs =
    cond-true (ltb 2 (length (46 ∷ 47 ∷ b ∷ bs))) (Some (b ∷ bs)) None (lt-ltb 2 (length (46 ∷ 47 ∷ b ∷ bs)) (omega arith))

pub dotted_back : (s : List ℕ) → Bytes s → and_then_some (unescaped (dotted s)) undotted ≡ Some s
dotted_back [] h = ap (λ o. and_then_some o undotted) undone_dot
dotted_back (b ∷ bs) h = ap (λ o. and_then_some o undotted) (undone-dotted (b ∷ bs) h) ∙ undotted_path b bs
