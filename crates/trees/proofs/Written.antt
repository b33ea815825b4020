-- How far a text that is written piece by piece has come in a buffer. Assumes nothing.
use Rattle.std.proofs.Common.{◌≡◌, ℕ, ◌+◌, ◌≤◌, List, [], ◌∷◌, ◌++◌, length, take, drop, sym, ap, ◌∙◌, append_assoc, take-append-drop, arith}
use Rattle.std.proofs.lemmas.List.{length-append}
use Rattle.std.proofs.lemmas.Slice.{take-put_mid, drop-put_mid}
use Rattle.std.specs.List.{concat}
use borrow.Rule.Slice.PartMut.{put_mid}

-- the first n bytes and the pieces that are left make the whole text, and the bytes behind it are those of old
pub record Written (text old buf : List ℕ) (rest : List (List ℕ)) (n : ℕ) : Type 0 where
  pub long : n + length (concat rest) ≡ length text
  pub whole : take n buf ++ (concat rest ++ drop (length text) buf) ≡ text ++ drop (length text) old

-- nothing is written yet
pub unwritten : (text old : List ℕ) (rest : List (List ℕ)) → concat rest ≡ text → Written text old old rest 0
unwritten text old rest e = record { long = omega (arith, ap length e); whole = ap (λ z. z ++ drop (length text) old) e }

module _ (text old buf : List ℕ) (rest : List (List ℕ)) (n : ℕ) (w : Written text old buf rest n) where
  -- nothing is left
  pub done : rest ≡ [] → buf ≡ text ++ drop (length text) old
  done e =
      let all : length text ≡ n = omega (arith, w.long, ap (λ z. length (concat z)) e) in
      sym (take-append-drop (length text) buf) ∙ (λ i. take (all i) buf ++ (concat (sym e i) ++ drop (length text) buf)) ∙ w.whole

  module _ (piece : List ℕ) (next : List (List ℕ)) (parts : rest ≡ piece ∷ next) where
    -- there is room for the next piece
    pub room_for : n + length piece ≤ length text
    room_for = omega (arith, w.long, ap (λ z. length (concat z)) parts, length-append piece (concat next))

    -- one piece more
    pub more : (bytes : List ℕ) (k m : ℕ) → bytes ≡ piece → n ≤ length buf → length bytes ≡ k → m ≡ n + length bytes → Written text old (put_mid n k buf bytes) next m
    more bytes k m same fits long at = record {
      long = omega (arith, w.long, room_for, ap (λ z. length (concat z)) parts, ap length same, length-append piece (concat next));
      whole =
          (λ i. take-put_mid n k buf bytes m at fits i ++ (concat next ++ drop-put_mid n k buf bytes (length text) (omega (arith, room_for, ap length same)) fits long i))
          ∙ append_assoc (take n buf) bytes (concat next ++ drop (length text) buf)
          ∙ ap (λ z. take n buf ++ z) ((λ i. same i ++ (concat next ++ drop (length text) buf)) ∙ sym (append_assoc piece (concat next) (drop (length text) buf)) ∙ ap (λ z. concat z ++ drop (length text) buf) (sym parts))
          ∙ w.whole;
    }
