-- The token at a position of a line, and the fields behind it. Assumes nothing.
use Rattle.std.proofs.Common.{◌≡◌, ℕ, suc, ◌+◌, ◌-◌, ◌<◌, ◌≤◌, Bool, true, false, cond, ◌&&◌, eqb, ltb, leb, List, [], ◌∷◌, length, take, drop, Ok, Err, Result, nat_eq, sym, refl, ap, ◌∙◌, length-drop, arith}
use Rattle.std.specs.Cmp.Lexicographic.{pointwise}
use Rattle.std.proofs.lemmas.Bool.{cond-true, cond-false, lt-ltb, le-leb, lt-leb, ltb-true, ltb-false, eq-eqb, ne_eqb}
use Rattle.std.proofs.lemmas.List.{drop-drop, take_rest}
use Rattle.paths.specs.Names.{same}
use Rattle.paths.specs.Pieces.{front, later, pieces}
use Rattle.paths.proofs.Fronts.{take-front, later-none, later-some}
use Rattle.words.specs.declared.fault.Cause.{Cause}
use Rattle.words.specs.declared.fault.Cause.TheVariants.{Keyword as Unexpected}
use Rattle.mtree.specs.declared.lexer.Part.{Part}
use Rattle.mtree.specs.declared.lexer.Token.{Token}
use Rattle.mtree.specs.declared.lexer.Token.TheVariants.{Word, Keyword, End}
use Rattle.mtree.specs.Lexed.{spelled, Lexeme, word, keyword, end, keyword_or_word, field_token, token_at, fields_from, tail}
use Rattle.mtree.specs.Keywords.{expected}

-- the texts of a field with a `=`, as the code cuts them
pub keyword_is : (s v : List ℕ) (at e : ℕ) → e ≡ length (front 61 s) → e + 1 ≤ length s → v ≡ take (length s - (e + 1)) (drop (e + 1) s) → keyword (take e s) at v (at + e + 1) ≡ keyword_or_word s at
keyword_is s v at e is fits value =
    let name : take e s ≡ front 61 s = ap (λ n. take n s) is ∙ take-front 61 s in
    let rest : v ≡ drop (length (front 61 s) + 1) s = value ∙ take_rest s (e + 1) ∙ ap (λ n. drop (n + 1) s) is in
    let lt : length (front 61 s) < length s = omega arith in
    (λ j. keyword (name j) at (rest j) (at + is j + 1)) ∙ sym (cond-true (ltb (length (front 61 s)) (length s)) _ _ (lt-ltb _ _ lt))

-- a field as the code cuts it: the first e bytes of what stands from its position on
module _ (line : List ℕ) (at : ℕ) (rest : List ℕ) (e : ℕ) (within : at ≤ length line) (cut : rest ≡ take (length line - at) (drop at line)) (is : e ≡ length (front 32 rest)) where
  rest_is : rest ≡ drop at line
  rest_is = cut ∙ take_rest line at

  field_is : take e rest ≡ front 32 (drop at line)
  field_is = ap (λ n. take n rest) is ∙ take-front 32 rest ∙ ap (front 32) rest_is

  inside : leb at (length line) ≡ true
  inside = le-leb at (length line) within

  pub first_token : at ≡ 0 → word (take e rest) at ≡ token_at line at
  first_token start = ap (λ k. word k at) field_is ∙ sym (cond-true (leb at (length line)) _ _ inside ∙ cond-true (eqb at 0) _ _ (eq-eqb at 0 start))

  pub more_token : (at ≡ 0 → ⊥) → keyword_or_word (take e rest) at ≡ token_at line at
  more_token more = ap (λ k. keyword_or_word k at) field_is ∙ sym (cond-true (leb at (length line)) _ _ inside ∙ cond-false (eqb at 0) _ _ (ne_eqb at 0 more))

  pub fields_behind : e ≤ length rest → fields_from line (at + length (take e rest) + 1) ≡ tail (fields_from line at)
  fields_behind fits =
      ap (λ k. fields_from line (at + length k + 1)) field_is
      ∙ behind (ltb (length (front 32 s)) (length s)) refl
      ∙ sym (ap tail (cond-true (leb at (length line)) (pieces 32 s) [] inside)) where
        s : List ℕ
        s = drop at line

        n : ℕ
        n = length (front 32 s)

        short : n ≤ length s
        short = omega (arith, is, ap length rest_is, ap (λ r. length (front 32 r)) rest_is, fits)

        behind : (t : Bool) → ltb n (length s) ≡ t → fields_from line (at + n + 1) ≡ later 32 s
        behind true h =
            let lt : n < length s = ltb-true _ _ h in
            cond-true (leb (at + n + 1) (length line)) _ _ (le-leb _ _ (omega (arith, length-drop at line)))
            ∙ ap (pieces 32) (ap (λ i. drop i line) (omega arith) ∙ sym (drop-drop (suc n) at line))
            ∙ sym (later-some 32 s lt)
        behind false h =
            let ge : length s ≤ n = ltb-false _ _ h in
            cond-false (leb (at + n + 1) (length line)) _ _ (lt-leb _ _ (omega (arith, length-drop at line)))
            ∙ sym (later-none 32 s (omega (arith, short)))

-- the value that a token has, if it is the keyword of that name
abbrev pub value_of : List ℕ → Lexeme → Result (List ℕ) Cause
value_of wanted (word k p) = Err Unexpected
value_of wanted (keyword name p value q) = cond (same wanted name) (Ok value) (Err Unexpected)
value_of wanted (end p) = Err Unexpected

pub expected_is : (wanted line : List ℕ) (at : ℕ) → 1 ≤ at → expected wanted (fields_from line at) ≡ value_of wanted (token_at line at)
expected_is wanted line at begun = go (leb at (length line)) where
  k : List ℕ
  k = front 32 (drop at line)

  field : (t : Bool) → cond (t && same wanted (front 61 k)) (Ok (drop (length (front 61 k) + 1) k)) (Err Unexpected) ≡ value_of wanted (cond t (keyword (front 61 k) at (drop (length (front 61 k) + 1) k) (at + length (front 61 k) + 1)) (word k at))
  field true = refl
  field false = refl

  go : (t : Bool) → expected wanted (cond t (pieces 32 (drop at line)) []) ≡ value_of wanted (cond t (field_token k at) (end (length line)))
  go true = field (ltb (length (front 61 k)) (length k)) ∙ ap (value_of wanted) (sym (cond-false (eqb at 0) _ _ (ne_eqb at 0 (λ z. absurd (omega arith)))))
  go false = refl

pub same_is : (a b : List ℕ) → same a b ≡ pointwise nat_eq b a
same_is [] [] = refl
same_is [] (y ∷ ys) = refl
same_is (x ∷ xs) [] = refl
same_is (x ∷ xs) (y ∷ ys) = ap (λ t. eqb y x && t) (same_is xs ys)

-- a field that is no keyword has no value
pub not_keyword : (wanted : List ℕ) (t : Token) → ((name value : Part) → t ≡ Keyword name value → ⊥) → value_of wanted (spelled t) ≡ Err Unexpected
not_keyword wanted (Word w) h = refl
not_keyword wanted (Keyword name value) h = absurd (h name value refl)
not_keyword wanted (End p) h = refl
