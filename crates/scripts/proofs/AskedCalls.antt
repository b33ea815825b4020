-- What a script asks for is what a script can ask for. Assumes nothing.
use Rattle.std.proofs.Common.{◌≡◌, ℕ, ◌+◌, ◌^◌, ◌<◌, List, [], ◌∷◌, ◌++◌, Some, None, Ok, Option, refl, subst}
use Rattle.std.specs.Option.{option_map, ok_or}
use Rattle.std.specs.List.{AllByRecursion as All}
use Rattle.paths.specs.Pieces.{pieces}
use Rattle.paths.specs.Steps.{and_then, and_then_some}
use Rattle.paths.proofs.Granted.{then_some}
use Rattle.trees.specs.declared.entry.Entry.{Entry}
use Rattle.trees.specs.declared.entry.Entry.TheVariants.{File}
use Rattle.trees.proofs.Fine.{Bytes, all_append}
use Rattle.edits.specs.declared.action.Action.TheVariants.{Put, Mkdir, Chmod, Remove}
use Rattle.mtree.specs.Lexed.{tail}
use Rattle.mtree.specs.Numbers.{content_of}
use Rattle.archive.specs.Calls.{Request, look, next, list, room, need, edit}
use Rattle.scripts.specs.declared.verb.Verb.{Verb}
use Rattle.scripts.specs.declared.verb.Verb.TheVariants as verb
use Rattle.scripts.specs.Values.{path_word, name_word, mode_word, size_word, zeros}
use Rattle.scripts.specs.Verbs.{verb_of}
use Rattle.scripts.specs.Arguments.{first, next_by, word, ended, path_alone, name_or_none, path_and_name, path_and_mode, path_and_file}
use Rattle.scripts.specs.Lines.{Line, call, file, asked, line_of}
use Rattle.scripts.specs.Scripts.{Requests, nothing, added, with_line, lines_of, script_from, script_of}
use Rattle.scripts.specs.Laws.{AskableFile, Askable, AskableLater, AskableScript}
use Rattle.scripts.proofs.AskedWords.{path-asked, name-asked, mode-asked, size-asked, content-asked}

-- ---- word by word

-- the word that was read, and what was made of those behind it
abbrev WordRead : {A B : Type 0} → (List ℕ → Option A) → (A → List (List ℕ) → Option B) → List (List ℕ) → B → Type 0
WordRead {A = A} rule go ws b = (a : A) × (w : List ℕ) × (rule w ≡ Some a) × (go a (tail ws) ≡ Some b)

word_read : {A B : Type 0} (rule : List ℕ → Option A) (go : A → List (List ℕ) → Option B) (ws : List (List ℕ)) (b : B) → word rule go ws ≡ Some b → WordRead rule go ws b
word_read rule go ws b e =
    let p = then_some (next_by rule ws) (λ a. go a (tail ws)) b e in
    let q = then_some (first ws) rule p.0 p.1 in
    (p.0, q.0, q.2, p.2)

was_last : {A : Type 0} (a : A) (ws : List (List ℕ)) (b : A) → ended a ws ≡ Some b → a ≡ b
was_last a [] b e = cc
was_last a (w ∷ ws) b e = cc

was_mapped : {A B : Type 0} (f : A → B) (o : Option A) (b : B) → option_map f o ≡ Some b → (a : A) × (o ≡ Some a) × (f a ≡ b)
was_mapped f None b e = cc
was_mapped f (Some a) b e =
    let is : f a ≡ b = cc in
    (a, refl, is)

path_alone-asked : (ws : List (List ℕ)) (p : List ℕ) → path_alone ws ≡ Some p → Bytes p
path_alone-asked ws p e =
    let r = word_read path_word ended ws p e in
    subst Bytes (was_last r.0 (tail ws) p r.3) (path-asked r.1 r.0 r.2)

name_or_none-asked : (ws : List (List ℕ)) (n : List ℕ) → name_or_none ws ≡ Some n → Bytes n
name_or_none-asked [] n e =
    let is : ◌≡◌ {A = List ℕ} [] n = cc in
    subst Bytes is tt
name_or_none-asked (w ∷ ws) n e =
    let r = word_read name_word ended (w ∷ ws) n e in
    subst Bytes (was_last r.0 ws n r.3) (name-asked r.1 r.0 r.2)

path_and_name-asked : (ws : List (List ℕ)) (r : List ℕ × List ℕ) → path_and_name ws ≡ Some r → Bytes r.0 × Bytes r.1
path_and_name-asked ws r e =
    let p = word_read path_word (λ p ws. option_map (λ n. (p, n)) (name_or_none ws)) ws r e in
    let n = was_mapped (λ n. (p.0, n)) (name_or_none (tail ws)) r p.3 in
    subst (λ r. Bytes r.0 × Bytes r.1) n.2 (path-asked p.1 p.0 p.2, name_or_none-asked (tail ws) n.0 n.1)

path_and_mode-asked : (ws : List (List ℕ)) (r : List ℕ × ℕ) → path_and_mode ws ≡ Some r → Bytes r.0 × (r.1 < 2 ^ 16)
path_and_mode-asked ws r e =
    let p = word_read path_word (λ p. word mode_word (λ m. ended (p, m))) ws r e in
    let m = word_read mode_word (λ m. ended (p.0, m)) (tail ws) r p.3 in
    subst (λ r. Bytes r.0 × (r.1 < 2 ^ 16)) (was_last (p.0, m.0) (tail (tail ws)) r m.3) (path-asked p.1 p.0 p.2, mode-asked m.1 m.0 m.2)

abbrev file_from : ℕ → ℕ → ℕ → Entry
file_from m s c = File (record { mode = m; size = s; content = c })

path_and_file-asked : (ws : List (List ℕ)) (r : List ℕ × Entry) → path_and_file ws ≡ Some r → Bytes r.0 × AskableFile r.1
path_and_file-asked ws r e =
    let p = word_read path_word (λ p. word mode_word (λ m. word size_word (λ s. word content_of (λ c. ended (p, file_from m s c))))) ws r e in
    let m = word_read mode_word (λ m. word size_word (λ s. word content_of (λ c. ended (p.0, file_from m s c)))) (tail ws) r p.3 in
    let s = word_read size_word (λ s. word content_of (λ c. ended (p.0, file_from m.0 s c))) (tail (tail ws)) r m.3 in
    let c = word_read content_of (λ c. ended (p.0, file_from m.0 s.0 c)) (tail (tail (tail ws))) r s.3 in
    subst (λ r. Bytes r.0 × AskableFile r.1) (was_last (p.0, file_from m.0 s.0 c.0) (tail (tail (tail (tail ws)))) r c.3) (path-asked p.1 p.0 p.2, (mode-asked m.1 m.0 m.2, size-asked s.1 s.0 s.2, content-asked c.1 c.0 c.2))

-- ---- a line

abbrev AskableLine : Line → Type 0
AskableLine (call r) = Askable r
AskableLine file = Unit {0}

asked-askable : (v : Verb) (ws : List (List ℕ)) (l : Line) → asked v ws ≡ Some l → AskableLine l
asked-askable verb.Look ws l e =
    let r = was_mapped (λ p. call (look p)) (path_alone ws) l e in
    subst AskableLine r.2 (path_alone-asked ws r.0 r.1)
asked-askable verb.Next ws l e =
    let r = was_mapped (λ r. call (next r.0 r.1 (zeros 40))) (path_and_name ws) l e in
    let a = path_and_name-asked ws r.0 r.1 in
    subst AskableLine r.2 (a.0, a.1, refl)
asked-askable verb.List ws l e = subst AskableLine (was_last (call (list (zeros 65536))) ws l e) refl
asked-askable verb.Room ws l e = subst AskableLine (was_last (call room) ws l e) tt
asked-askable verb.Need ws l e =
    let r = was_mapped (λ p. call (need p)) (path_alone ws) l e in
    subst AskableLine r.2 (path_alone-asked ws r.0 r.1)
asked-askable verb.Put ws l e =
    let r = was_mapped (λ r. call (edit r.0 (Put r.1))) (path_and_file ws) l e in
    subst AskableLine r.2 (path_and_file-asked ws r.0 r.1)
asked-askable verb.Mkdir ws l e =
    let r = was_mapped (λ r. call (edit r.0 (Mkdir r.1))) (path_and_mode ws) l e in
    subst AskableLine r.2 (path_and_mode-asked ws r.0 r.1)
asked-askable verb.Chmod ws l e =
    let r = was_mapped (λ r. call (edit r.0 (Chmod r.1))) (path_and_mode ws) l e in
    subst AskableLine r.2 (path_and_mode-asked ws r.0 r.1)
asked-askable verb.Remove ws l e =
    let r = was_mapped (λ p. call (edit p Remove)) (path_alone ws) l e in
    subst AskableLine r.2 (path_alone-asked ws r.0 r.1, tt)
asked-askable verb.File ws l e = subst AskableLine (was_last file ws l e) tt

line-askable : (t : List ℕ) (l : Line) → line_of t ≡ Some l → AskableLine l
line-askable t l e =
    let r = word_read verb_of asked (pieces 32 t) l e in
    asked-askable r.0 (tail (pieces 32 t)) l r.3

-- ---- a script

one_more : (rs : List Request) → All Askable rs → (r : Request) → Askable r → All Askable (rs ++ r ∷ [])
one_more rs h r g = all_append Askable rs (r ∷ []) h (g, tt)

added-askable : (rs : List Request) (o : Option (List Request)) (l : Line) (t : Requests) → All Askable rs → AskableLater o → AskableLine l → added rs o l ≡ Some t → AskableScript t
added-askable rs None (call r) t h g k e =
    let is : ◌≡◌ {A = Requests} (record { first = rs ++ r ∷ []; later = None }) t = cc in
    subst AskableScript is (one_more rs h r k, tt)
added-askable rs None file t h g k e =
    let is : ◌≡◌ {A = Requests} (record { first = rs; later = Some [] }) t = cc in
    subst AskableScript is (h, tt)
added-askable rs (Some qs) (call r) t h g k e =
    let is : ◌≡◌ {A = Requests} (record { first = rs; later = Some (qs ++ r ∷ []) }) t = cc in
    subst AskableScript is (h, one_more qs g r k)
added-askable rs (Some qs) file t h g k e = cc

from-askable : (ls : List (List ℕ)) (n : ℕ) (s t : Requests) → AskableScript s → script_from n s ls ≡ Ok t → AskableScript t
unfolding script_from
from-askable [] n s t h e =
    let is : s ≡ t = cc in
    subst AskableScript is h
from-askable (l ∷ ls) n s t h e = go (and_then_some (line_of l) (with_line s)) refl (λ u k. from-askable ls (n + 1) u t k) e where
  go : (o : Option Requests) → and_then_some (line_of l) (with_line s) ≡ o → ((u : Requests) → AskableScript u → script_from (n + 1) u ls ≡ Ok t → AskableScript t) → and_then (ok_or o n) (λ u. script_from (n + 1) u ls) ≡ Ok t → AskableScript t
  go None is on e = cc
  go (Some u) is on e =
      let p = then_some (line_of l) (with_line s) u is in
      on u (added-askable s.first s.later p.0 u h.0 h.1 (line-askable l p.0 p.1) p.2) e

pub askable : (text : List ℕ) (s : Requests) → script_of text ≡ Ok s → AskableScript s
askable text s e = from-askable (lines_of text) 1 nothing s (tt, tt) e
