-- What stands before the path in a word. Assumes nothing.
use Rattle.std.proofs.Common.{◌≡◌, ℕ, ◌<◌, ◌≤◌, Bool, true, false, cond, ◌&&◌, eqb, ltb, leb, List, [], ◌∷◌, length, take, Some, None, Err, Option, sym, refl, ap, ◌∙◌, arith}
use Rattle.std.proofs.Math.Bool.{and-true}
use Rattle.std.proofs.lemmas.Bool.{cond-false, lt-ltb, lt-leb, leb-true, leb-false, and_right}
use Rattle.std.proofs.lemmas.List.{length-take-le, take_all}
use Rattle.paths.specs.declared.PathFault.TheVariants.{TooLong}
use Rattle.paths.specs.Names.{split, fault_in, judge, judged, same, begins}
use Rattle.words.specs.declared.fault.Cause.TheVariants.{Word, Path}
use Rattle.std.specs.Option.{option_map}
use Rattle.paths.specs.Steps.{and_then_some, map_err}
use Rattle.words.specs.Words.{undotted, judged_word}

-- a longer word is not the root's
not_root : (x y : ℕ) (s : List ℕ) → same (46 ∷ []) (x ∷ y ∷ s) ≡ false
not_root x y s = and_right (eqb x 46) false refl

-- what is behind the first two bytes, if they are `./`
undotted_long : (x y : ℕ) (s : List ℕ) → 0 < length s → (t : Bool) → begins (46 ∷ 47 ∷ []) (x ∷ y ∷ s) ≡ t → undotted (x ∷ y ∷ s) ≡ cond t (Some s) None
undotted_long x y s l t e =
    cond-false (same (46 ∷ []) (x ∷ y ∷ s)) _ _ (not_root x y s)
    ∙ ap (λ u. cond (u && ltb 2 (length (x ∷ y ∷ s))) (Some s) None) e
    ∙ ap (λ u. cond u (Some s) None) (ap (λ u. t && u) (lt-ltb 2 (length (x ∷ y ∷ s)) (omega arith)) ∙ and-true t)

too_long : (s : List ℕ) → 120 < length s → map_err Path (judge s) ≡ Err (Path TooLong)
too_long s l = ap (λ o. map_err Path (judged (split s) o)) (cond-false (leb (length s) 120) (fault_in 0 (split s)) (Some TooLong) (lt-leb (length s) 120 l))

long : (x y : ℕ) (s : List ℕ) → 120 < length s → (t : Bool) → begins (46 ∷ 47 ∷ []) (x ∷ y ∷ s) ≡ t → judged_word (undotted (x ∷ y ∷ s)) ≡ Err (cond t (Path TooLong) Word)
long x y s l true e = ap judged_word (undotted_long x y s (omega arith) true e) ∙ too_long s l
long x y s l false e = ap judged_word (undotted_long x y s (omega arith) false e)

-- of a word that is longer, 123 bytes are judged as the whole
cut_word : (s : List ℕ) → judged_word (undotted (take 123 s)) ≡ judged_word (undotted s)
cut_word [] = refl
cut_word (x ∷ []) = refl
cut_word (x ∷ y ∷ s) = go (leb 121 (length s)) refl where
  go : (t : Bool) → leb 121 (length s) ≡ t → judged_word (undotted (take 123 (x ∷ y ∷ s))) ≡ judged_word (undotted (x ∷ y ∷ s))
  go true e =
      let l : 121 ≤ length s = leb-true 121 (length s) e in
      let m : 120 < length (take 121 s) = omega (arith, length-take-le 121 s l) in
      long x y (take 121 s) m (begins (46 ∷ 47 ∷ []) (x ∷ y ∷ s)) refl ∙ sym (long x y s (omega arith) (begins (46 ∷ 47 ∷ []) (x ∷ y ∷ s)) refl)
  go false e =
      let l = leb-false 121 (length s) e in
      ap (λ l. judged_word (undotted l)) (take_all 123 (x ∷ y ∷ s) (omega arith))

pub of_plain : (o : Option (List ℕ)) (v : List ℕ) → Some v ≡ option_map (take 123) o → judged_word (and_then_some o undotted) ≡ judged_word (undotted v)
of_plain None v e = cc
of_plain (Some s) v e =
    let is : v ≡ take 123 s = cc in
    sym (ap (λ l. judged_word (undotted l)) is ∙ cut_word s)
