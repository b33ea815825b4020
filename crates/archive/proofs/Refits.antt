-- A refit: its replies, and the file of all layers. Assumes nothing.
use Rattle.std.proofs.Common.{◌≡◌, ℕ, suc, ◌+◌, true, List, [], ◌∷◌, ◌++◌, map, length, take, Ok, Err, Result, IsOkAnd, MatchResult, sym, refl, ap, ◌∙◌, subst, append_assoc}
use Rattle.std.proofs.lemmas.List.{take_at, map_push, append-nil, length-append}
use Rattle.std.specs.Result.{result_map_both}
use Rattle.paths.specs.Steps.{and_then}
use Rattle.trees.specs.declared.fault.Fault.{Fault}
use Rattle.trees.specs.Buffers.{fitted, put_front}
use Rattle.trees.specs.Entries.{Entries, Row, is_tree}
use Rattle.marks.specs.Marks.{MarkRow, merged, layered}
use Rattle.marks.specs.Plain.{Plain, plain_of}
use Rattle.marks.specs.Squash.{squashed}
use Rattle.marks.proofs.Merges.{layer_parts}
use Rattle.marks.proofs.Squashes.{squashed-squashed, squashed-empty, empty-squashed}
use Rattle.layers.specs.declared.layer.Layer.{Layer}
use Rattle.layers.specs.Layers.{marks_of}
use Rattle.layer_files.specs.Files.{encoded}
use Rattle.layers.proofs.Few.{few-rows}
use Rattle.sessions.specs.declared.session.Session.{Session}
use Rattle.sessions.specs.Sessions.{marks_in}
use Rattle.archive.specs.Calls.{Request, Response}
use Rattle.archive.specs.Answers.{plain_in, after}
use Rattle.archive.specs.Runs.{answers, afterwards, opened}
use Rattle.archive.specs.declared.refit.Files.{Files}
use Rattle.archive.specs.Groups.{squash_of, grouped, laid_all}
use Rattle.archive.specs.Filings.{told_in, Left, Filing}
use Rattle.archive.specs.Refits.{Filed}
use Rattle.archive.proofs.Filings.{replies_on, plain_laid}
use Rattle.archive.proofs.Groups.{all_squashed, Layers, all_layers, grouped_all, all_laid}

-- ---- the replies to the first calls

pub length-answers : (s : Plain) (xs : List Request) → length (answers s xs) ≡ length xs
unfolding answers
length-answers s [] = refl
length-answers s (x ∷ xs) = ap suc (length-answers (after s x) xs)

-- they stand behind those that were there, and before any others
first_replies : (s : Plain) (xs : List Request) (n : ℕ) (before others replies : List Response) → length before + length xs ≡ n → replies ≡ before ++ (answers s xs ++ others) → take n replies ≡ before ++ answers s xs
first_replies s xs n before others replies l h =
    ap (take n) (h ∙ sym (append_assoc before (answers s xs) others))
    ∙ take_at (before ++ answers s xs) others n (length-append before (answers s xs) ∙ ap (λ k. length before + k) (length-answers s xs) ∙ l)

-- what a filing from a tree onto itself says of the replies, where the rows of the tree are those rows
module _ (e rows : List Row) (same : e ≡ rows) (first second : List Request) (before replies : List Response) (old new : List ℕ) where
  pub replayed : (r : Result (ℕ × Plain) Fault) (n : ℕ) → length before + length first ≡ n → Filing e e first second before replies r old new → take n replies ≡ before ++ answers (opened rows) first
  replayed (Ok r) n l f = first_replies (opened e) first n before (answers (plain_of f.marks e) second) replies l f.answer.2 ∙ ap (λ z. before ++ answers (opened z) first) same
  replayed (Err r) n l f =
      first_replies (opened e) first n before [] replies l (f.answer.1 ∙ ap (λ z. before ++ z) (sym (append-nil (answers (opened e) first)))) ∙ ap (λ z. before ++ answers (opened z) first) same

  filed : (r : Result (ℕ × Plain) Fault) → Filing e e first second before replies r old new → Filed e first second before replies (result_map_both (λ f. f.0) (λ f. f) r) old new
  filed (Ok r) f = record {
    marks = f.marks;
    left = f.left;
    answer = sym f.answer.0;
    buffer = f.buffer;
    reads_back = f.reads_back;
    anywhere = λ calls. ap (λ s. answers s calls) f.left.leaves;
    goes_on = f.answer.2 ∙ ap (λ z. before ++ z) (replies_on e e f.marks first second f.left.leaves refl);
  }
  filed (Err r) f = record {
    marks = f.marks;
    left = f.left;
    answer = sym f.answer.0;
    buffer = f.buffer;
    reads_back = tt;
    anywhere = λ calls. ap (λ s. answers s calls) f.left.leaves;
    goes_on = f.answer.1;
  }

  pub filed_there : (r : Result (ℕ × Plain) Fault) → Filing e e first second before replies r old new → Filed rows first second before replies (result_map_both (λ f. f.0) (λ f. f) r) old new
  filed_there r f = subst (λ z. Filed z first second before replies (result_map_both (λ f. f.0) (λ f. f) r) old new) same (filed r f)

-- ---- the layer of a session over a tree with those rows

pub layer_left : {T : Type 0} (s : Session T) (e : T → Entries) (t : T) (u : Layer) (rows : List Row) (calls : List Request) → u ≡ s.layer → s.lower ≡ t → (e t).rows ≡ rows → plain_in e s ≡ afterwards (opened (e t).rows) calls → Left rows calls (marks_of u)
layer_left s e t u rows calls a b h k = record {
  is_layer = u.grown;
  few = few-rows u;
  leaves =
      ap (λ z. plain_of (marks_of z) rows) a
      ∙ ap (plain_of (marks_in s)) (sym h)
      ∙ sym (plain_laid e t s (marks_in s) refl b)
      ∙ k
      ∙ ap (λ z. afterwards (opened z) calls) h;
}

-- ---- a layer over the others

all_under : (u : List MarkRow) (ms : List (List MarkRow)) → layered u ≡ true → Layers ms → all_squashed (ms ++ u ∷ []) ≡ squashed u (all_squashed ms)
all_under u [] h a = let up = (layer_parts u h).0 in empty-squashed u up ∙ sym (squashed-empty u up)
all_under u (l ∷ ms) h a = ap (λ z. squashed z l) (all_under u ms h a.1) ∙ squashed-squashed u (all_squashed ms) l (layer_parts l a.0).0

module _ (ks : List ℕ) (ls : List Layer) (l u : Layer) (h : grouped ks (map marks_of ls) ≡ Ok (marks_of l)) where
  layers : Layers (map marks_of ls ++ marks_of u ∷ [])
  layers = subst Layers (map_push marks_of ls u) (all_layers (ls ++ u ∷ []))

  whole : all_squashed (map marks_of ls ++ marks_of u ∷ []) ≡ squashed (marks_of u) (marks_of l)
  whole = all_under (marks_of u) (map marks_of ls) u.grown (all_layers ls) ∙ ap (squashed (marks_of u)) (sym (grouped_all ks (map marks_of ls) (marks_of l) (all_layers ls) h))

  pub any_order : (other : List ℕ) (m : List MarkRow) → grouped other (map marks_of ls ++ marks_of u ∷ []) ≡ Ok m → m ≡ squashed (marks_of u) (marks_of l)
  any_order other m g = grouped_all other (map marks_of ls ++ marks_of u ∷ []) m layers g ∙ whole

  pub whole_laid : (e : List Row) → is_tree e ≡ true → merged (squashed (marks_of u) (marks_of l)) e ≡ laid_all (map marks_of ls ++ marks_of u ∷ []) e
  whole_laid e t = ap (λ z. merged z e) (sym whole) ∙ all_laid (map marks_of ls ++ marks_of u ∷ []) e layers t

-- ---- the files, by what the filing gave

-- the layer of the session that stands on a file
abbrev pub Parted : {T : Type 0} → Result (ℕ × Session T) Fault → Result (ℕ × Layer) Fault → Type 0
Parted filed p = MatchResult filed (λ f. IsOkAnd p (λ r. (r.0 ≡ f.0) × (r.1 ≡ f.1.layer))) (λ f. p ≡ Err f)

-- the file of the squash with that layer
abbrev pub Written : Result (ℕ × Layer) Fault → Layer → List ℕ → List ℕ → Result Files Fault → Type 0
Written filed lower old new files =
    MatchResult filed
    (λ f. IsOkAnd files (λ r.
    (r.layer ≡ f.0)
    × (r.whole ≡ and_then (squash_of (marks_of f.1) (marks_of lower)) (λ m. fitted (encoded m) (length old)))
    × MatchResult r.whole (λ n. new ≡ put_front (encoded (squashed (marks_of f.1) (marks_of lower))) old) (λ e. new ≡ old)))
    (λ f. (files ≡ Err f) × (new ≡ old))

module _ {T : Type 0} (e : T → Entries) (lower : Layer) (old new : List ℕ) where
  -- what is told of the file is what the filing told
  pub files_told : (filed : Result (ℕ × Session T) Fault) (p : Result (ℕ × Layer) Fault) (files : Result Files Fault) → Parted filed p → Written p lower old new files → result_map_both (λ f. f.0) (λ f. f) (told_in e filed) ≡ result_map_both (λ f. f.layer) (λ f. f) files
  files_told (Ok f) (Ok r) (Ok z) a b = ap Ok (sym (b.0 ∙ a.0))
  files_told (Ok f) (Ok r) (Err z) a b = elim b [ ]
  files_told (Ok f) (Err r) z a b = elim a [ ]
  files_told (Err f) p files a b = ap (result_map_both (λ f. f.layer) (λ f. f)) (sym (subst (λ z. Written z lower old new files) a b).0)

  -- the squash is that of the layer which was parted
  pub whole_by : (filed : Result (ℕ × Session T) Fault) (p : Result (ℕ × Layer) Fault) (files : Result Files Fault) (P : Result ℕ Fault → Type 0) → Parted filed p → Written p lower old new files →
      ((f : ℕ × Session T) (u : Layer) (whole : Result ℕ Fault) → filed ≡ Ok f → u ≡ f.1.layer → whole ≡ and_then (squash_of (marks_of u) (marks_of lower)) (λ m. fitted (encoded m) (length old)) → MatchResult whole (λ n. new ≡ put_front (encoded (squashed (marks_of u) (marks_of lower))) old) (λ e. new ≡ old) → P whole) →
      MatchResult files (λ f. P f.whole) (λ f. new ≡ old)
  whole_by (Ok f) (Ok r) (Ok z) P a b go = go f r.1 z.whole refl a.1 b.1 b.2
  whole_by (Ok f) (Ok r) (Err z) P a b go = elim b [ ]
  whole_by (Ok f) (Err r) z P a b go = elim a [ ]
  whole_by (Err f) p files P a b go =
      let w = subst (λ z. Written z lower old new files) a b in
      subst (λ z. MatchResult z (λ f. P f.whole) (λ f. new ≡ old)) (sym w.0) w.1
