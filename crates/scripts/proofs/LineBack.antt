-- The line that is written for a call reads back as that call. Assumes nothing.
use Rattle.std.proofs.Common.{◌≡◌, ℕ, ◌<◌, Bool, true, false, cond, ltb, List, [], ◌∷◌, Some, Option, sym, refl, ap, ◌∙◌, arith}
use Rattle.std.specs.Option.{option_map}
use Rattle.std.specs.List.{AllByRecursion as All}
use Rattle.paths.specs.Pieces.{pieces}
use Rattle.paths.specs.Steps.{and_then_some}
use Rattle.words.proofs.Splits.{Lacks, Above, above_from, above-less, above-lacks, pieces-whole, pieces_part}
use Rattle.trees.specs.declared.entry.Entry.{Entry}
use Rattle.trees.specs.declared.entry.Entry.TheVariants.{File, Dir}
use Rattle.trees.proofs.Fine.{Bytes, all_append}
use Rattle.edits.specs.declared.action.Action.{Action}
use Rattle.edits.specs.declared.action.Action.TheVariants.{Put, Mkdir, Chmod, Remove}
use Rattle.listing.specs.Lines.{dotted, digits}
use Rattle.listing.proofs.Undoing.{dotted_back}
use Rattle.listing.proofs.Seen.{escaped-seen, dotted-seen, digits-seen, decimal-seen}
use Rattle.mtree.proofs.Numerals.{content_back}
use Rattle.archive.specs.Calls.{Request, look, next, list, room, need, edit}
use Rattle.scripts.specs.Values.{zeros}
use Rattle.scripts.specs.declared.verb.Verb.TheVariants as verb
use Rattle.scripts.specs.Verbs.{look_word, next_word, list_word, room_word, need_word, put_word, mkdir_word, chmod_word, remove_word, verb_of}
use Rattle.scripts.specs.Arguments.{word}
use Rattle.scripts.specs.Lines.{Line, call, asked, line_of}
use Rattle.scripts.specs.Written.{mode_digits, after_words, file_words, edit_words, call_words, spaced, call_line}
use Rattle.scripts.specs.Laws.{AskableAction, Askable}
use Rattle.scripts.proofs.WordsBack.{name_back, mode_word_back, size_word_back}

-- ---- no word has a space or a newline

mode-seen : (m : ℕ) → Above 32 (mode_digits m)
mode-seen m = go (ltb m 4096) where
  go : (t : Bool) → Above 32 (cond t (digits 8 4 m) (digits 8 6 m))
  go true = digits-seen 8 4 m
  go false = digits-seen 8 6 m

after-seen : (a : List ℕ) → All (Above 32) (after_words a)
after-seen [] = tt
after-seen (b ∷ bs) = (escaped-seen (b ∷ bs), tt)

edit-seen : (p : List ℕ) → Above 32 p → (a : Action) → AskableAction a → All (Above 32) (edit_words p a)
edit-seen p s (Put (File f)) h = (above_from 32 put_word refl, (s, (mode-seen f.mode, (decimal-seen f.size h.1, (digits-seen 16 16 f.content, tt)))))
edit-seen p s (Put (Dir d)) h = absurd h
edit-seen p s (Mkdir m) h = (above_from 32 mkdir_word refl, (s, (mode-seen m, tt)))
edit-seen p s (Chmod m) h = (above_from 32 chmod_word refl, (s, (mode-seen m, tt)))
edit-seen p s Remove h = (above_from 32 remove_word refl, (s, tt))

words-seen : (r : Request) → Askable r → All (Above 32) (call_words r)
words-seen (look p) h = (above_from 32 look_word refl, (dotted-seen p, tt))
words-seen (next p after buffer) h = (above_from 32 next_word refl, (dotted-seen p, after-seen after))
words-seen (list buffer) h = (above_from 32 list_word refl, tt)
words-seen room h = (above_from 32 room_word refl, tt)
words-seen (need p) h = (above_from 32 need_word refl, (dotted-seen p, tt))
words-seen (edit p a) h = edit-seen (dotted p) (dotted-seen p) a h.1

-- ---- the words of a line

spaced_pieces : (w : List ℕ) (ws : List (List ℕ)) → All (Above 32) (w ∷ ws) → pieces 32 (spaced (w ∷ ws)) ≡ w ∷ ws
spaced_pieces w [] a = pieces-whole 32 w (above-lacks 32 w a.0)
spaced_pieces w (v ∷ ws) a = pieces_part 32 w (spaced (v ∷ ws)) (above-lacks 32 w a.0) ∙ ap (λ l. w ∷ l) (spaced_pieces v ws a.1)

spaced_above : (ws : List (List ℕ)) → All (Above 32) ws → Above 10 (spaced ws)
spaced_above [] a = tt
spaced_above (w ∷ []) a = above-less 10 32 (omega arith) w a.0
spaced_above (w ∷ v ∷ ws) a =
    all_append (λ x. 10 < x) w (32 ∷ spaced (v ∷ ws)) (above-less 10 32 (omega arith) w a.0) (omega arith, spaced_above (v ∷ ws) a.1)

pub line_lacks : (r : Request) → Askable r → Lacks 10 (call_line r)
line_lacks r h = above-lacks 10 (call_line r) (spaced_above (call_words r) (words-seen r h))

-- ---- what the words ask for

by_words : (w : List ℕ) (ws : List (List ℕ)) → All (Above 32) (w ∷ ws) → (l : Line) → word verb_of asked (w ∷ ws) ≡ Some l → line_of (spaced (w ∷ ws)) ≡ Some l
by_words w ws a l e = ap (word verb_of asked) (spaced_pieces w ws a) ∙ e

next_back : (p after : List ℕ) → Bytes p → Bytes after → asked verb.Next (dotted p ∷ after_words after) ≡ Some (call (next p after (zeros 40)))
next_back p [] h g = ap (λ o. option_map (λ (r : List ℕ × List ℕ). call (next r.0 r.1 (zeros 40))) (and_then_some o (λ p. Some (p, [])))) (dotted_back p h)
next_back p (b ∷ bs) h g =
    λ i. option_map (λ (r : List ℕ × List ℕ). call (next r.0 r.1 (zeros 40))) (and_then_some (dotted_back p h i) (λ p. option_map (λ n. (p, n)) (and_then_some (name_back b bs g i) (λ n. Some n))))

abbrev file_line : Option (List ℕ) → Option ℕ → Option ℕ → Option ℕ → Option Line
file_line p m s c =
    option_map (λ (r : List ℕ × Entry). call (edit r.0 (Put r.1))) (and_then_some p (λ p. and_then_some m (λ m. and_then_some s (λ s. and_then_some c (λ c. Some (p, File (record { mode = m; size = s; content = c })))))))

edit_back : (p : List ℕ) → Bytes p → (a : Action) → AskableAction a → line_of (spaced (edit_words (dotted p) a)) ≡ Some (call (edit p a))
edit_back p h (Put (File f)) g =
    by_words put_word (dotted p ∷ file_words (File f)) (edit-seen (dotted p) (dotted-seen p) (Put (File f)) g) (call (edit p (Put (File f)))) (λ i. file_line (dotted_back p h i) (mode_word_back f.mode g.0 i) (size_word_back f.size g.1 i) (content_back f.content g.2 i))
edit_back p h (Put (Dir d)) g = absurd g
edit_back p h (Mkdir m) g =
    by_words mkdir_word (dotted p ∷ mode_digits m ∷ []) (edit-seen (dotted p) (dotted-seen p) (Mkdir m) g) (call (edit p (Mkdir m))) (λ i. option_map (λ (r : List ℕ × ℕ). call (edit r.0 (Mkdir r.1))) (and_then_some (dotted_back p h i) (λ p. and_then_some (mode_word_back m g i) (λ m. Some (p, m)))))
edit_back p h (Chmod m) g =
    by_words chmod_word (dotted p ∷ mode_digits m ∷ []) (edit-seen (dotted p) (dotted-seen p) (Chmod m) g) (call (edit p (Chmod m))) (λ i. option_map (λ (r : List ℕ × ℕ). call (edit r.0 (Chmod r.1))) (and_then_some (dotted_back p h i) (λ p. and_then_some (mode_word_back m g i) (λ m. Some (p, m)))))
edit_back p h Remove g =
    by_words remove_word (dotted p ∷ []) (edit-seen (dotted p) (dotted-seen p) Remove g) (call (edit p Remove)) (ap (λ o. option_map (λ p. call (edit p Remove)) (and_then_some o (λ p. Some p))) (dotted_back p h))

pub line_back : (r : Request) → Askable r → line_of (call_line r) ≡ Some (call r)
line_back (look p) h =
    by_words look_word (dotted p ∷ []) (words-seen (look p) h) (call (look p)) (ap (λ o. option_map (λ p. call (look p)) (and_then_some o (λ p. Some p))) (dotted_back p h))
line_back (next p after buffer) h =
    by_words next_word (dotted p ∷ after_words after) (words-seen (next p after buffer) h) (call (next p after buffer)) (next_back p after h.0 h.1 ∙ ap (λ b. Some (call (next p after b))) (sym h.2))
line_back (list buffer) h =
    by_words list_word [] (words-seen (list buffer) h) (call (list buffer)) (ap (λ b. Some (call (list b))) (sym h))
line_back room h = by_words room_word [] (words-seen room h) (call room) refl
line_back (need p) h =
    by_words need_word (dotted p ∷ []) (words-seen (need p) h) (call (need p)) (ap (λ o. option_map (λ p. call (need p)) (and_then_some o (λ p. Some p))) (dotted_back p h))
line_back (edit p a) h = edit_back p h.0 a h.1
