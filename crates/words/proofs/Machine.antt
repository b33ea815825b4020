-- What one byte of a word does to the bytes that it stands for. Assumes nothing.
use Rattle.std.proofs.Common.{◌≡◌, ℕ, zero, suc, ◌+◌, ◌<◌, ◌≤◌, List, [], ◌∷◌, ◌++◌, length, get_or, take, drop, Some, None, Option, sym, refl, ap, ◌∙◌, append_assoc, append-nil, arith}
use Rattle.std.proofs.lemmas.List.{at_drop_more, at_drop_all, take_all, take-append-le}
use Rattle.std.proofs.lemmas.Bool.{eqb-true, eqb-false}
use Rattle.std.specs.Option.{option_map}
use Rattle.words.specs.declared.escape.State.{State}
use Rattle.words.specs.declared.escape.State.TheVariants.{Plain, Backslash, OneDigit, TwoDigits}
use Rattle.words.specs.declared.escape.Step.{Step}
use Rattle.words.specs.declared.escape.Step.TheVariants.{To, Out}
use Rattle.words.specs.Escapes.{step_of, onward, finished, undone, unescaped}

-- the first n bytes, where s is done, and the rest of the word is to be read from a state
abbrev pub after : ℕ → List ℕ → State → List ℕ → Option (List ℕ)
after n s t w = option_map (λ l. take n (s ++ l)) (undone t w)

module _ (n : ℕ) (s : List ℕ) (b : ℕ) where
  one_more : (o : Option (List ℕ)) → option_map (λ l. take n (s ++ l)) (option_map (λ l. b ∷ l) o) ≡ option_map (λ l. take n ((s ++ b ∷ []) ++ l)) o
  one_more None = refl
  one_more (Some l) = ap (λ k. Some (take n k)) (sym (append_assoc s (b ∷ []) l))

  no_room : n ≤ length s → (o : Option (List ℕ)) → option_map (λ l. take n (s ++ l)) (option_map (λ l. b ∷ l) o) ≡ option_map (λ l. take n (s ++ l)) o
  no_room h None = refl
  no_room h (Some l) = ap Some (take-append-le n s (b ∷ l) h ∙ sym (take-append-le n s l h))

module _ (n : ℕ) (s : List ℕ) (t : State) (w : List ℕ) (i : ℕ) (lt : i < length w) where
  pub after_step : (x : Option Step) → step_of t (get_or w i 0) ≡ x → after n s t (drop i w) ≡ option_map (λ l. take n (s ++ l)) (onward x (λ v. undone v (drop (i + 1) w)))
  unfolding undone
  after_step x e =
      at_drop_more (after n s t) w i 0 lt ∙ ap (λ x. option_map (λ l. take n (s ++ l)) (onward x (λ v. undone v (drop (i + 1) w)))) e

  pub after_push : (b : ℕ) → step_of t (get_or w i 0) ≡ Some (Out b) → after n s t (drop i w) ≡ after n (s ++ b ∷ []) Plain (drop (i + 1) w)
  after_push b e = after_step (Some (Out b)) e ∙ one_more n s b (undone Plain (drop (i + 1) w))

  pub after_full : n ≤ length s → (b : ℕ) → step_of t (get_or w i 0) ≡ Some (Out b) → after n s t (drop i w) ≡ after n s Plain (drop (i + 1) w)
  after_full h b e = after_step (Some (Out b)) e ∙ no_room n s b h (undone Plain (drop (i + 1) w))

after_end : (n : ℕ) (s : List ℕ) (t : State) (w : List ℕ) (i : ℕ) → length w ≤ i → after n s t (drop i w) ≡ option_map (λ l. take n (s ++ l)) (finished t)
unfolding undone
after_end n s t w i h = at_drop_all (after n s t) w i h

-- a word may end only outside an escape
cut_short : (n : ℕ) (s : List ℕ) (t : State) → (t ≡ Plain → ⊥) → option_map (λ l. take n (s ++ l)) (finished t) ≡ None
cut_short n s Plain p = absurd (p refl)
cut_short n s Backslash p = refl
cut_short n s (OneDigit k) p = refl
cut_short n s (TwoDigits k) p = refl

module _ (n : ℕ) (s : List ℕ) (t : State) (w : List ℕ) (i : ℕ) (end : length w ≤ i) where
  pub after_cut : (t ≡ Plain → ⊥) → after n s t (drop i w) ≡ None
  after_cut p = after_end n s t w i end ∙ cut_short n s t p

  pub after_whole : t ≡ Plain → length s ≤ n → after n s t (drop i w) ≡ Some s
  after_whole p h =
      after_end n s t w i end ∙ ap (λ t. option_map (λ l. take n (s ++ l)) (finished t)) p
      ∙ ap (λ l. Some (take n l)) (append-nil s) ∙ ap Some (take_all n s h)

-- a byte that is made takes a byte of the word at least
made_short : (n b : ℕ) (o : Option (List ℕ)) → option_map (take n) o ≡ o → option_map (take (suc n)) (option_map (λ l. b ∷ l) o) ≡ option_map (λ l. b ∷ l) o
made_short n b None e = refl
made_short n b (Some l) e =
    let is : take n l ≡ l = cc in
    ap (λ k. Some (b ∷ k)) is

one_short : (n : ℕ) (bs : List ℕ) → ((v : State) → option_map (take (suc n)) (undone v bs) ≡ undone v bs) → option_map (take n) (undone Plain bs) ≡ undone Plain bs → (x : Option Step) → option_map (take (suc n)) (onward x (λ v. undone v bs)) ≡ onward x (λ v. undone v bs)
one_short n bs more less None = refl
one_short n bs more less (Some (To s)) = more s
one_short n bs more less (Some (Out c)) = made_short n c (undone Plain bs) less

-- a word stands for no more bytes than it has
undone_short : (w : List ℕ) (t : State) (n : ℕ) → length w ≤ n → option_map (take n) (undone t w) ≡ undone t w
unfolding undone
undone_short [] Plain zero h = refl
undone_short [] Plain (suc n) h = refl
undone_short [] Backslash n h = refl
undone_short [] (OneDigit k) n h = refl
undone_short [] (TwoDigits k) n h = refl
undone_short (b ∷ bs) t zero h = absurd (omega arith)
undone_short (b ∷ bs) t (suc n) h = one_short n bs (λ v. undone_short bs v (suc n) (omega arith)) (undone_short bs Plain n (omega arith)) (step_of t b)

pub no_longer : (w : List ℕ) → option_map (take (length w)) (unescaped w) ≡ unescaped w
no_longer w = undone_short w Plain (length w) (omega arith)

-- the steps of the loop over a word
pub ruleset machine_steps = (after_step, after_push, after_full, after_cut, after_whole, eqb-true, eqb-false)
