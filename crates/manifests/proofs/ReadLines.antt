-- What one line adds to the rows. Assumes nothing.
use Rattle.std.proofs.Common.{◌≡◌, ℕ, suc, ◌+◌, ◌-◌, ◌<◌, ◌≤◌, Bool, true, false, cond, ◌&&◌, eqb, leb, ltb, min, List, [], ◌∷◌, ◌++◌, length, get_or, take, drop, Ok, Err, Result, MatchResult, IsOk, sym, refl, ap, ◌∙◌, subst, ⊎_elim, add-one, drop-cons, arith}
use native.Mathlib.Nat.{sub-zero}
use Rattle.std.proofs.lemmas.List.{take_more, take_at, drop_at, take_all, length-append}
use Rattle.std.proofs.lemmas.List.Recursion.{is_position_or_len}
use Rattle.std.proofs.lemmas.List.Sums.{position_or_len_is}
use Rattle.std.specs.List.{IsFirstMatchOrLen, position_or_len}
use Rattle.std.specs.Str.{bytes_eq}
use Rattle.std.proofs.lemmas.Bool.{cond-true, cond-false, eq-eqb, ne_eqb, eqb-true, ltb-true, true≢false, cases_lt}
use Rattle.paths.specs.Names.{begins}
use Rattle.paths.specs.Pieces.{front, later, pieces}
use Rattle.paths.proofs.Fronts.{later-none, later-some, cut-front}
use Rattle.rows.specs.Maps.{Names, rises}
use Rattle.trees.specs.declared.entry.Entry.{Entry}
use Rattle.trees.specs.Entries.{Row}
use Rattle.words.specs.declared.fault.Cause.{Cause}
use Rattle.words.specs.declared.fault.Cause.TheVariants.{Word, Order, Parent, TooMany}
use Rattle.manifests.specs.declared.fault.ManifestFault.{ManifestFault}
use Rattle.paths.specs.Steps.{and_then, map_err}
use Rattle.words.specs.Words.{path_of}
use Rattle.mtree.specs.Keywords.{entry_of}
use Rattle.mtree.specs.Lines.{line_of}
use Rattle.manifests.specs.Manifests.{under_dir, placed, row_of_line, fault_at, rows_from, rows_in}
use Rattle.manifests.specs.Readers.{ended, row_of_ended}
use Rattle.listing.specs.Lines.{header}

module _ (limit at : ℕ) (rows : List Row) (s : List ℕ) where
  module _ (h : length (front 10 s) < length s) where
    two : rows_from limit at rows (pieces 10 s) ≡ and_then (map_err (fault_at at) (row_of_line limit rows (front 10 s))) (λ r. rows_from limit (at + (length (front 10 s) + 1)) (rows ++ r ∷ []) (pieces 10 (drop (suc (length (front 10 s))) s)))
    unfolding rows_from
    two = ap (λ l. rows_from limit at rows (front 10 s ∷ l)) (later-some 10 s h)

    rows_turn : (r : Row) → row_of_line limit rows (front 10 s) ≡ Ok r → rows_from limit at rows (pieces 10 s) ≡ rows_from limit (at + (length (front 10 s) + 1)) (rows ++ r ∷ []) (pieces 10 (drop (length (front 10 s) + 1) s))
    rows_turn r e =
        two
        ∙ ap (λ x. and_then (map_err (fault_at at) x) (λ r. rows_from limit (at + (length (front 10 s) + 1)) (rows ++ r ∷ []) (pieces 10 (drop (suc (length (front 10 s))) s)))) e
        ∙ ap (λ n. rows_from limit (at + (length (front 10 s) + 1)) (rows ++ r ∷ []) (pieces 10 (drop n s))) (sym (add-one (length (front 10 s))))

    rows_stop : (c : Cause) → row_of_line limit rows (front 10 s) ≡ Err c → rows_from limit at rows (pieces 10 s) ≡ Err (fault_at at c)
    rows_stop c e =
        two ∙ ap (λ x. and_then (map_err (fault_at at) x) (λ r. rows_from limit (at + (length (front 10 s) + 1)) (rows ++ r ∷ []) (pieces 10 (drop (suc (length (front 10 s))) s)))) e

  module _ (h : length (front 10 s) ≡ length s) where
    one : rows_from limit at rows (pieces 10 s) ≡ cond (eqb (length (front 10 s)) 0) (Ok rows) (Err (fault_at at Word))
    unfolding rows_from
    one = ap (λ l. rows_from limit at rows (front 10 s ∷ l)) (later-none 10 s h)

    rows_end : length s ≡ 0 → rows_from limit at rows (pieces 10 s) ≡ Ok rows
    rows_end z = one ∙ cond-true (eqb (length (front 10 s)) 0) _ _ (eq-eqb _ 0 (h ∙ z))

    rows_cut : 0 < length s → rows_from limit at rows (pieces 10 s) ≡ Err (fault_at at Word)
    rows_cut l = one ∙ cond-false (eqb (length (front 10 s)) 0) _ _ (ne_eqb _ 0 (λ z. omega arith))

-- what a line says, and then its place
pub row_line : (limit : ℕ) (rows : List Row) (l : List ℕ) → row_of_line limit rows l ≡ and_then (line_of l) (λ r. placed limit rows r.0 r.1)
row_line limit rows l = go (path_of (front 32 l)) (entry_of (later 32 l)) where
  go : (x : Result Names Cause) (y : Result Entry Cause) → and_then x (λ p. and_then y (λ e. placed limit rows p e)) ≡ and_then {A = Row} (and_then x (λ p. and_then y (λ e. Ok (p, e)))) (λ r. placed limit rows r.0 r.1)
  go (Err c) y = refl
  go (Ok p) (Err c) = refl
  go (Ok p) (Ok e) = refl

-- ---- a line that is taken has room

pub placed-room : (limit : ℕ) (rows : List Row) (p : Names) (e : Entry) (r : Row) → placed limit rows p e ≡ Ok r → length rows < limit
placed-room limit rows p e r h = go (rises rows p) (under_dir rows p e) (ltb (length rows) limit) refl h where
  go : (t u v : Bool) → ltb (length rows) limit ≡ v → cond t (cond u (cond v (Ok (p, e)) (Err TooMany)) (Err Parent)) (Err Order) ≡ Ok r → length rows < limit
  go false u v f h = cc
  go true false v f h = cc
  go true true false f h = cc
  go true true true f h = ltb-true (length rows) limit f

pub row_room : (limit : ℕ) (rows : List Row) (l : List ℕ) (r : Row) → row_of_line limit rows l ≡ Ok r → length rows < limit
row_room limit rows l r h = go (path_of (front 32 l)) (entry_of (later 32 l)) h where
  go : (x : Result Names Cause) (y : Result Entry Cause) → and_then x (λ p. and_then y (λ e. placed limit rows p e)) ≡ Ok r → length rows < limit
  go (Err c) y h = cc
  go (Ok p) (Err c) h = cc
  go (Ok p) (Ok e) h = placed-room limit rows p e r h

-- ---- the lines of a text, each with its newline

front_place : (s : List ℕ) → length (front 10 s) ≡ position_or_len (λ b. eqb b 10) s
front_place =
    is_position_or_len (λ s. length (front 10 s)) (λ b. eqb b 10) refl
    (λ b bs. elim (eqb b 10) as (λ t. length (cond t [] (b ∷ front 10 bs)) ≡ cond t 0 (1 + length (front 10 bs))) [ true ↦ refl | false ↦ omega arith ])

ended_whole : (l : List ℕ) → ended (l ++ 10 ∷ []) ≡ Ok l
ended_whole l =
    let n : length l ≡ length (l ++ 10 ∷ []) - 1 = omega (arith, length-append l (10 ∷ [])) in
    cond-true (bytes_eq (drop (length (l ++ 10 ∷ []) - 1) (l ++ 10 ∷ [])) (10 ∷ [])) _ _ (ap (λ x. bytes_eq x (10 ∷ [])) (drop_at l (10 ∷ []) _ n)) ∙ ap Ok (take_at l (10 ∷ []) _ n)

ended_cut : (s : List ℕ) → 0 < length s → eqb (get_or s (length s - 1) 0) 10 ≡ false → ended s ≡ Err Word
ended_cut s some h =
    cond-false (bytes_eq (drop (length s - 1) s) (10 ∷ [])) _ _ (ap (λ x. bytes_eq x (10 ∷ [])) (drop-cons s (length s - 1) 0 (omega arith)) ∙ rw h refl)

-- a line x stands first in s, the place of whose first newline is i
module _ (limit at : ℕ) (rows : List Row) (s x more : List ℕ) (parts : s ≡ x ++ more) (i : ℕ) (long : length x ≡ min (i + 1) (length s)) (first : IsFirstMatchOrLen (λ b. eqb b 10) s i) (some : 0 < length s) where
  place : (n : ℕ) → n ≤ i → n ≤ length s → (n < length s → n ≡ i) → length (front 10 s) ≡ n
  place n low within is = front_place s ∙ position_or_len_is (λ b. eqb b 10) s n 0 within (λ k l. first.0 k 0 (omega arith) (omega arith)) (λ l. subst (λ k. eqb (get_or s k 0) 10 ≡ true) (sym (is l)) (first.1 (omega (arith, is l)) 0))

  module _ (here : i < length s) where
    at_place : length (front 10 s) ≡ i
    at_place = place i (omega arith) (omega arith) (λ l. refl)

    line_is : x ≡ front 10 s ++ 10 ∷ []
    line_is =
        let n : length x ≡ i + 1 = omega arith in
        sym (ap (take (i + 1)) parts ∙ take_at x more (i + 1) n)
        ∙ take_more s i 0 here
        ∙ (λ j. (ap (λ k. take k s) (sym (sub-zero i)) ∙ cut-front 10 s i (sym at_place)) j ++ eqb-true (get_or s i 0) 10 (first.1 here 0) j ∷ [])

    more_is : drop (length (front 10 s) + 1) s ≡ more
    more_is =
        let n : length x ≡ length (front 10 s) + 1 = omega (arith, at_place) in
        ap (drop (length (front 10 s) + 1)) parts ∙ drop_at x more _ n

    says_whole : row_of_ended limit rows x ≡ row_of_line limit rows (front 10 s)
    says_whole = ap (row_of_ended limit rows) line_is ∙ ap (λ o. and_then o (λ l. row_of_line limit rows l)) (ended_whole (front 10 s))

  module _ (none : length s ≤ i) where
    all_cut : x ≡ s
    all_cut =
        let n : length x ≡ length s = omega arith in
        sym (ap (take (length s)) parts ∙ take_at x more (length s) n) ∙ take_all (length s) s (omega arith)

    says_cut : row_of_ended limit rows x ≡ Err Word
    says_cut = ap (row_of_ended limit rows) all_cut ∙ ap (λ o. and_then o (λ l. row_of_line limit rows l)) (ended_cut s some (first.0 (length s - 1) 0 (omega arith) (omega arith)))

  line_stops : (c : Cause) → row_of_ended limit rows x ≡ Err c → rows_from limit at rows (pieces 10 s) ≡ Err (fault_at at c)
  line_stops c e = ⊎_elim
      (λ here. rows_stop limit at rows s (omega (arith, at_place here)) c (sym (says_whole here) ∙ e))
      (λ none. let same : Word ≡ c = cc (says_cut none) in rows_cut limit at rows s (place (length s) none (omega arith) (λ l. absurd (omega arith))) some ∙ ap (λ w. Err (fault_at at w)) same)
      (cases_lt i (length s))

  line_turns : (r : Row) → row_of_ended limit rows x ≡ Ok r → rows_from limit at rows (pieces 10 s) ≡ rows_from limit (at + length x) (rows ++ r ∷ []) (pieces 10 more)
  line_turns r e = ⊎_elim
      (λ here.
      let n : length (front 10 s) + 1 ≡ length x = omega (arith, at_place here) in
      rows_turn limit at rows s (omega (arith, at_place here)) r (sym (says_whole here) ∙ e) ∙ (λ j. rows_from limit (at + n j) (rows ++ r ∷ []) (pieces 10 (more_is here j))))
      (λ none. cc (says_cut none))
      (cases_lt i (length s))

  -- where the line is given to a reader
  pub line_refused : (r : Result (Unit {0}) Cause) (f : ManifestFault) (P : Type 0) → MatchResult r (λ _. ⊥) (λ e. f ≡ fault_at at e) → MatchResult r (λ _. P) (λ e. row_of_ended limit rows x ≡ Err e) → rows_from limit at rows (pieces 10 s) ≡ Err f
  line_refused (Ok u) f P h g = absurd h
  line_refused (Err e) f P is h = line_stops e h ∙ ap Err (sym is)

  pub line_taken : (r : Result (Unit {0}) Cause) (new : List Row) (Q : Cause → Type 0) → IsOk r → MatchResult r (λ _. (y : Row) × (row_of_ended limit rows x ≡ Ok y) × (new ≡ rows ++ y ∷ [])) Q → rows_from limit at rows (pieces 10 s) ≡ rows_from limit (at + length x) new (pieces 10 more)
  line_taken (Ok u) new Q ok h = line_turns h.0 h.1 ∙ ap (λ l. rows_from limit (at + length x) l (pieces 10 more)) (sym h.2)
  line_taken (Err e) new Q ok h = absurd (true≢false (sym ok))

pub text_begins : (limit : ℕ) (text : List ℕ) (rows : List Row) → (leb (length text) 65536 && begins header text) ≡ true → rows ≡ [] → rows_in limit text ≡ rows_from limit 7 rows (pieces 10 (drop 7 text))
text_begins limit text rows h none =
    cond-true (leb (length text) 65536 && begins header text) _ _ h ∙ ap (λ l. rows_from limit 7 l (pieces 10 (drop 7 text))) (sym none)

pub text_ends : (limit at : ℕ) (rows : List Row) (s : List ℕ) → length s ≡ 0 → rows_from limit at rows (pieces 10 s) ≡ Ok rows
text_ends limit at rows [] h = rows_end limit at rows [] refl h
text_ends limit at rows (b ∷ bs) h = absurd (omega arith)
