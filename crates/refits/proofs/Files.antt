-- Both files fit their buffers, and read back as their layers. Assumes nothing.
use Rattle.std.proofs.Common.{◌≡◌, ℕ, ◌≤◌, Bool, true, false, cond, ltb, List, [], ◌++◌, map, length, take, drop, is_ok, Ok, Err, Result, IfOk, MatchResult, sym, refl, ap, ◌∙◌, subst}
use Rattle.std.proofs.lemmas.Bool.{true≢false, cond-false, le-ltb, ltb-false}
use Rattle.std.proofs.lemmas.List.{take_at}
use Rattle.std.specs.Result.{result_map_both, IsOkAnd}
use Rattle.paths.specs.Steps.{and_then}
use Rattle.trees.specs.declared.fault.Fault.{Fault}
use Rattle.trees.specs.declared.fault.Fault.TheVariants.{NoRoom, ShortBuffer}
use Rattle.trees.specs.Buffers.{fitted, put_front}
use Rattle.trees.specs.Entries.{Row}
use Rattle.marks.specs.Marks.{MarkRow, layered}
use Rattle.marks.specs.Squash.{squashed}
use Rattle.marks.proofs.Squashes.{layered-squashed}
use Rattle.layers.specs.declared.layer.Layer.{Layer}
use Rattle.layers.specs.Layers.{marks_of}
use Rattle.layer_files.specs.Files.{encoded}
use Rattle.layer_files.specs.Reads.{decoded}
use Rattle.layer_files.proofs.Fits.{fits}
use Rattle.layer_files.proofs.ForthRows.{reads-back}
use Rattle.archive.specs.declared.refit.Files.{Files}
use Rattle.archive.specs.Calls.{Request, Response, response_of}
use Rattle.archive.specs.Groups.{squash_of, grouped, laid_all}
use Rattle.archive.specs.Refits.{Filed, Regrouped}
use Rattle.archive.proofs.Groups.{all_layers, grouped_all, layered-all}
use Rattle.refits.specs.declared.making.LayerFile.{LayerFile}
use Rattle.refits.specs.declared.making.Made.{Made}
use Rattle.refits.specs.declared.making.Run.{Run}
use Rattle.scripts.specs.Scripts.{Requests}
use Rattle.refits.specs.Judging.{squash_in}
use Rattle.refits.specs.Refits.{later_calls}
use Rattle.refits.specs.Steps.{file_of, held, file_in, Cut, held_whole, Gives}
use Rattle.refits.proofs.Ends.{has_squash}

-- ---- one layer, and a buffer of 65,536 bytes

module _ (m : List MarkRow) (l : layered m ≡ true) (f : length m ≤ 192) (old : List ℕ) (room : length old ≡ 65536) where
  long : ltb (length old) (length (encoded m)) ≡ false
  long = ap (λ n. ltb n (length (encoded m))) room ∙ le-ltb 65536 (length (encoded m)) (fits m l f)

  pub written : fitted (encoded m) (length old) ≡ Ok (length (encoded m))
  written = cond-false (ltb (length old) (length (encoded m))) (Err ShortBuffer) (Ok (length (encoded m))) long

  -- the front of the buffer is the file
  pub front_is : (n : ℕ) (new : List ℕ) → fitted (encoded m) (length old) ≡ Ok n → new ≡ put_front (encoded m) old → take n new ≡ encoded m
  front_is n new w p =
      let same : length (encoded m) ≡ n = let h = sym written ∙ w in cc in
      ap (take n) (p ∙ cond-false (ltb (length old) (length (encoded m))) old (encoded m ++ drop (length (encoded m)) old) long)
      ∙ take_at (encoded m) (drop (length (encoded m)) old) n same

-- a file that holds the layer
module _ (m : List MarkRow) (l : layered m ≡ true) (f : length m ≤ 192) (bytes : List ℕ) (is : bytes ≡ encoded m) where
  pub reads : decoded bytes ≡ Ok m
  reads = ap decoded is ∙ reads-back m l f

  pub accepted : is_ok (decoded bytes) ≡ true
  accepted = ap is_ok reads

one_ok : {A E : Type 0} (a b : A) → ◌≡◌ {A = Result A E} (Ok a) (Ok b) → a ≡ b
one_ok a b h = cc

-- the file that is cut from a buffer with that file in front
cut_holds : (m : List MarkRow) → layered m ≡ true → length m ≤ 192 → (buffer : List ℕ) (n : ℕ) → take n buffer ≡ encoded m → (file : LayerFile) → file_in buffer n ≡ Ok (held file) → held file ≡ file_of m
cut_holds m l f buffer n is file h =
    let r = reads m l f (take n buffer) is in
    one_ok (held file) (length m, take n buffer) (sym h ∙ ap (result_map_both (λ m. (length m, take n buffer)) (λ f. f)) r) ∙ ap (λ z. (length m, z)) is

-- ---- the layer that is filed

kept : {A : Type 0} (r : Result A Fault) (to : A → ℕ) (n : ℕ) → result_map_both to (λ f. f) r ≡ Ok n → is_ok r ≡ true
kept (Ok a) to n h = refl
kept (Err f) to n h = cc

module _ (e : List Row) (first second : List Request) (replies : List Response) (old new : List ℕ) (room : length old ≡ 65536) where
  pub is_filed : {A : Type 0} (r : Result A Fault) (to : A → ℕ) → Filed e first second [] replies (result_map_both to (λ f. f) r) old new → is_ok r ≡ true
  is_filed r to f = kept r to (length (encoded f.marks)) (f.answer ∙ written f.marks f.left.is_layer f.left.few old room)

  pub filed_front : (n : ℕ) (f : Filed e first second [] replies (Ok n) old new) → take n new ≡ encoded f.marks
  filed_front n f = front_is f.marks f.left.is_layer f.left.few old room n new (sym f.answer) f.buffer

-- ---- the squash of all layers

-- a squash that is not refused has few rows
few_squashed : (u l m : List MarkRow) → squash_of u l ≡ Ok m → (m ≡ squashed u l) × (length m ≤ 192)
few_squashed u l m h = got (ltb 192 (length (squashed u l))) refl h where
  got : (t : Bool) → ltb 192 (length (squashed u l)) ≡ t → ◌≡◌ {A = Result (List MarkRow) Fault} (cond t (Err (NoRoom 0)) (Ok (squashed u l))) (Ok m) → (m ≡ squashed u l) × (length m ≤ 192)
  got true e k = cc
  got false e k = let is : m ≡ squashed u l = cc in (is, subst (λ (n : ℕ). n ≤ 192) (ap length (sym is)) (ltb-false 192 (length (squashed u l)) e))

module _ (u l : List MarkRow) (lu : layered u ≡ true) (ll : layered l ≡ true) (old new : List ℕ) (room : length old ≡ 65536) where
  -- what the writing of a squash that is not refused gives
  both : (whole : Result ℕ Fault) (s : Result (List MarkRow) Fault) → squash_of u l ≡ s → whole ≡ and_then s (λ m. fitted (encoded m) (length old)) → MatchResult s (λ m. (m ≡ squashed u l) × (layered m ≡ true) × (length m ≤ 192) × (whole ≡ Ok (length (encoded m)))) (λ f. whole ≡ Err f)
  both whole (Ok m) h k =
      let got = few_squashed u l m h in
      let layer = ap layered got.0 ∙ layered-squashed u l lu ll in
      (got.0, layer, got.1, k ∙ written m layer got.1 old room)
  both whole (Err f) h k = k

  module _ (whole : Result ℕ Fault) (answer : whole ≡ and_then (squash_of u l) (λ m. fitted (encoded m) (length old))) where
    -- where it was written, the front of the buffer is the file of the squash
    pub whole_front : (n : ℕ) → whole ≡ Ok n → new ≡ put_front (encoded (squashed u l)) old → (squash_of u l ≡ Ok (squashed u l)) × (layered (squashed u l) ≡ true) × (length (squashed u l) ≤ 192) × (take n new ≡ encoded (squashed u l))
    whole_front n w p = go (squash_of u l) refl where
      go : (s : Result (List MarkRow) Fault) → squash_of u l ≡ s → (squash_of u l ≡ Ok (squashed u l)) × (layered (squashed u l) ≡ true) × (length (squashed u l) ≤ 192) × (take n new ≡ encoded (squashed u l))
      go (Err f) h = let z = sym w ∙ both whole (Err f) h (answer ∙ ap (λ s. and_then s (λ m. fitted (encoded m) (length old))) h) in cc
      go (Ok m) h =
          let b = both whole (Ok m) h (answer ∙ ap (λ s. and_then s (λ m. fitted (encoded m) (length old))) h) in
          let layer = ap layered (sym b.0) ∙ b.1 in
          let few : length (squashed u l) ≤ 192 = subst (λ (z : List MarkRow). length z ≤ 192) b.0 b.2 in
          (h ∙ ap Ok b.0, layer, few, front_is (squashed u l) layer few old room n new (written (squashed u l) layer few old room ∙ ap Ok (ap (λ z. length (encoded z)) (sym b.0)) ∙ sym b.3 ∙ w) p)

    -- where it was not, the squash is refused
    pub whole_refused : (f : Fault) → whole ≡ Err f → squash_of u l ≡ Err f
    whole_refused f w = go (squash_of u l) refl where
      go : (s : Result (List MarkRow) Fault) → squash_of u l ≡ s → squash_of u l ≡ Err f
      go (Ok m) h = let z = sym w ∙ (both whole (Ok m) h (answer ∙ ap (λ s. and_then s (λ m. fitted (encoded m) (length old))) h)).3 in cc
      go (Err k) h = let z = sym w ∙ both whole (Err k) h (answer ∙ ap (λ s. and_then s (λ m. fitted (encoded m) (length old))) h) in h ∙ cc

-- the squash of layers is a layer
pub layered_lower : (ks : List ℕ) (ls : List Layer) (m : List MarkRow) → grouped ks (map marks_of ls) ≡ Ok m → layered m ≡ true
layered_lower ks ls m h = ap layered (grouped_all ks (map marks_of ls) m (all_layers ls) h) ∙ layered-all (map marks_of ls) (all_layers ls)

-- ---- all that a refit gives

module _ (base : List Row) (ls : List Layer) (s : Requests) (old new old_whole new_whole : List ℕ) (room : length old ≡ 65536) (room_whole : length old_whole ≡ 65536) where
  abbrev under : List Row
  under = laid_all (map marks_of ls) base

  abbrev pub IsFiled : List Response → Result Files Fault → Type 0
  IsFiled replies files = Filed under s.first (later_calls s) [] replies (result_map_both (λ f. f.layer) (λ f. f) files) old new

  abbrev pub IsWhole : Result Files Fault → Type 0
  IsWhole files = MatchResult files (λ f. Regrouped base (map marks_of ls) [] (s.first ++ later_calls s) f.whole old_whole new_whole) (λ f. new_whole ≡ old_whole)

  abbrev IsOne : Result ℕ Fault → Type 0
  IsOne w = Regrouped base (map marks_of ls) [] (s.first ++ later_calls s) w old_whole new_whole

  pub filed_accepted : (replies : List Response) (files : Result Files Fault) → IsFiled replies files → IsOkAnd files (λ f. is_ok (decoded (take f.layer new)) ≡ true)
  filed_accepted replies (Ok f) h = accepted h.marks h.left.is_layer h.left.few (take f.layer new) (filed_front under s.first (later_calls s) replies old new room f.layer h)
  filed_accepted replies (Err k) h = absurd (true≢false (sym (is_filed under s.first (later_calls s) replies old new room (Err k) (λ (f : Files). f.layer) h)))

  one_front : (n : ℕ) (h : IsOne (Ok n)) → (squash_of h.upper h.lower ≡ Ok (squashed h.upper h.lower)) × (layered (squashed h.upper h.lower) ≡ true) × (length (squashed h.upper h.lower) ≤ 192) × (take n new_whole ≡ encoded (squashed h.upper h.lower))
  one_front n h = whole_front h.upper h.lower h.left.is_layer (layered_lower [] ls h.lower h.in_order) old_whole new_whole room_whole (Ok n) h.answer n refl h.buffer

  one_accepted : (w : Result ℕ Fault) → IsOne w → IfOk w (λ n. is_ok (decoded (take n new_whole)) ≡ true)
  one_accepted (Ok n) h = let k = one_front n h in accepted (squashed h.upper h.lower) k.1 k.2 (take n new_whole) k.3
  one_accepted (Err f) h = tt

  pub whole_accepted : (files : Result Files Fault) → IsWhole files → IfOk files (λ f. IfOk f.whole (λ n. is_ok (decoded (take n new_whole)) ≡ true))
  whole_accepted (Ok f) h = one_accepted f.whole h
  whole_accepted (Err f) h = tt

  one_held : (w : Result ℕ Fault) (file : Result LayerFile Fault) (h : IsOne w) → Cut w new_whole file → held_whole file ≡ result_map_both file_of (λ f. f) (squash_of h.upper h.lower)
  one_held (Ok n) (Ok file) h c =
      let k = one_front n h in
      ap Ok (cut_holds (squashed h.upper h.lower) k.1 k.2 new_whole n k.3 file c) ∙ sym (ap (result_map_both file_of (λ f. f)) k.0)
  one_held (Ok n) (Err f) h c = absurd c
  one_held (Err f) (Ok file) h c = absurd c
  one_held (Err f) (Err k) h c =
      let refused = whole_refused h.upper h.lower h.left.is_layer (layered_lower [] ls h.lower h.in_order) old_whole new_whole room_whole (Err f) h.answer f refl in
      ap Err (sym c) ∙ sym (ap (result_map_both file_of (λ f. f)) refused)

  pub made_is : (files : Result Files Fault) (made : Made) (replies : List Response) → IsFiled replies files → IsWhole files → map response_of made.replies.items ≡ replies → IfOk (grouped [] (map marks_of ls)) (λ m. made.rows ≡ length m) → IfOk files (λ f. file_in new f.layer ≡ Ok (held made.filed)) → IfOk files (λ f. Cut f.whole new_whole made.whole) → Gives under s (Ok made) (squash_in (map marks_of ls))
  made_is (Ok f) made replies filed whole same rows cut cut_whole =
      has_squash under s (map marks_of ls) made whole.lower whole.in_order (record {
        rows = subst (λ r. IfOk r (λ m. made.rows ≡ length m)) whole.in_order rows;
        replies = same ∙ filed.goes_on;
        filed = filed.marks;
        left = filed.left;
        file = cut_holds filed.marks filed.left.is_layer filed.left.few new f.layer (filed_front under s.first (later_calls s) replies old new room f.layer filed) made.filed cut;
        upper = whole.upper;
        left_at_end = whole.left;
        whole = one_held f.whole made.whole whole cut_whole;
      })
  made_is (Err k) made replies filed whole same rows cut cut_whole = absurd (true≢false (sym (is_filed under s.first (later_calls s) replies old new room (Err k) (λ (f : Files). f.layer) filed)))

  -- ---- the same of what a call gave

  module _ (r : Result Run Fault) (t : Run) (is : r ≡ Ok t) where
    pub filing_at : (second : List Request) → second ≡ later_calls s → IfOk r (λ t. Filed under s.first second [] (map response_of t.replies.items) (result_map_both (λ f. f.layer) (λ f. f) t.files) old new) → IsFiled (map response_of t.replies.items) t.files
    filing_at second same h =
        subst (λ z. Filed under s.first z [] (map response_of t.replies.items) (result_map_both (λ (f : Files). f.layer) (λ f. f) t.files) old new) same
        (subst (λ r. IfOk r (λ t. Filed under s.first second [] (map response_of t.replies.items) (result_map_both (λ (f : Files). f.layer) (λ f. f) t.files) old new)) is h)

    pub regrouping_at : (order : List ℕ) (calls : List Request) → order ≡ [] → calls ≡ s.first ++ later_calls s → IfOk r (λ t. MatchResult t.files (λ f. Regrouped base (map marks_of ls) order calls f.whole old_whole new_whole) (λ f. new_whole ≡ old_whole)) → IsWhole t.files
    regrouping_at order calls none same h =
        subst (λ z. MatchResult t.files (λ f. Regrouped base (map marks_of ls) [] z f.whole old_whole new_whole) (λ f. new_whole ≡ old_whole)) same
        (subst (λ z. MatchResult t.files (λ f. Regrouped base (map marks_of ls) z calls f.whole old_whole new_whole) (λ f. new_whole ≡ old_whole)) none
        (subst (λ r. IfOk r (λ t. MatchResult t.files (λ f. Regrouped base (map marks_of ls) order calls f.whole old_whole new_whole) (λ f. new_whole ≡ old_whole))) is h))

    pub rows_at : (order : List ℕ) → order ≡ [] → IfOk r (λ t. IfOk (grouped order (map marks_of ls)) (λ m. t.rows ≡ length m)) → IfOk (grouped [] (map marks_of ls)) (λ m. t.rows ≡ length m)
    rows_at order none h =
        subst (λ z. IfOk (grouped z (map marks_of ls)) (λ m. t.rows ≡ length m)) none
        (subst (λ r. IfOk r (λ t. IfOk (grouped order (map marks_of ls)) (λ m. t.rows ≡ length m))) is h)

-- the refusal of a squash
pub refused_at : (ms : List (List MarkRow)) (r : Result Run Fault) (f : Fault) (order : List ℕ) → r ≡ Err f → order ≡ [] → MatchResult r (λ t. is_ok (grouped order ms) ≡ true) (λ f. grouped order ms ≡ Err f) → grouped [] ms ≡ Err f
refused_at ms r f order is none h =
    ap (λ z. grouped z ms) (sym none) ∙ subst (λ r. MatchResult r (λ t. is_ok (grouped order ms) ≡ true) (λ f. grouped order ms ≡ Err f)) is h
