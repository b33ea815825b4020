-- What is told of a refit is what is to be printed. Assumes nothing.
use Rattle.std.proofs.Common.{◌≡◌, ℕ, ◌+◌, ◌⊎◌, inl, inr, List, [], ◌∷◌, ◌++◌, map, ◌≤◌, length, take, drop, Some, None, Option, Ok, Err, Result, Vec, Bor, sym, refl, ap, ◌∙◌, append_assoc, arith}
use Rattle.std.proofs.lemmas.List.{take_at, drop_at, length-map, length-append, append-nil}
use Rattle.std.specs.Option.{MatchOption, option_map, unwrap_or}
use Rattle.std.specs.Result.{result_map_both, result_ok}
use Rattle.std.specs.Global.{Global}
use Rattle.trees.specs.Entries.{Row}
use Rattle.layer_files.specs.Files.{encoded}
use Rattle.scripts.specs.declared.script.Script.{Script}
use Rattle.scripts.specs.Scripts.{Requests, requests_of}
use Rattle.trees.specs.declared.fault.Fault.{Fault}
use Rattle.marks.specs.Marks.{MarkRow}
use Rattle.marks.specs.Plain.{Plain}
use Rattle.archive.specs.declared.call.Call.{Call}
use Rattle.archive.specs.Calls.{Request, Response, request_of, response_of}
use Rattle.archive.specs.Answers.{answer, after}
use Rattle.archive.specs.Runs.{answers, afterwards, opened}
use Rattle.archive.specs.Groups.{squash_of}
use Rattle.archive.proofs.Runs.{answers-append}
use Rattle.archive.proofs.Refits.{length-answers}
use Rattle.replies.specs.Replies.{reply_text, call_name, pile_line, filed_line}
use Rattle.refits.specs.declared.making.Made.{Made}
use Rattle.refits.specs.Judging.{Given}
use Rattle.refits.specs.Tellings.{replies_text, filed_text, squashed_text}
use Rattle.refits.specs.Refits.{later_calls, rows_under, printed}
use Rattle.refits.specs.Steps.{texts, file_of, held, held_whole, whole_text, told, IsMade}

-- ---- replies to calls, each with its name

pub names_are : (cs : List Call) → map (λ c. call_name (request_of c)) cs ≡ map call_name (map request_of cs)
names_are [] = refl
names_are (c ∷ cs) = ap (λ ns. call_name (request_of c) ∷ ns) (names_are cs)

texts_answers : (s : Plain) (cs : List Request) → texts (map call_name cs) (answers s cs) ≡ replies_text s cs
unfolding texts answers replies_text
texts_answers s [] = refl
texts_answers s (c ∷ cs) = ap (λ t. reply_text (call_name c) (answer s c) ++ t) (texts_answers (after s c) cs)

-- the first of the replies, and those behind them
module _ (s : Plain) (first later : List Request) (replies : List Response) (is : replies ≡ answers s (first ++ later)) where
  in_two : replies ≡ answers s first ++ answers (afterwards s first) later
  in_two = is ∙ answers-append s first later

  long : length (answers s first) ≡ length (map call_name first)
  long = length-answers s first ∙ sym (length-map first call_name)

  first_texts : texts (map call_name first) (take (length (map call_name first)) replies) ≡ replies_text s first
  first_texts =
      ap (λ z. texts (map call_name first) (take (length (map call_name first)) z)) in_two
      ∙ ap (texts (map call_name first)) (take_at (answers s first) (answers (afterwards s first) later) (length (map call_name first)) long)
      ∙ texts_answers s first

  later_texts : texts (map call_name later) (drop (length (map call_name first)) replies) ≡ replies_text (afterwards s first) later
  later_texts =
      ap (λ z. texts (map call_name later) (drop (length (map call_name first)) z)) in_two
      ∙ ap (texts (map call_name later)) (drop_at (answers s first) (answers (afterwards s first) later) (length (map call_name first)) long)
      ∙ texts_answers (afterwards s first) later

-- ---- the whole

whole_same : (n : ℕ) (r : Result (List MarkRow) Fault) → whole_text n (result_map_both file_of (λ f. f) r) ≡ squashed_text n r
whole_same n (Ok m) = refl
whole_same n (Err f) = refl

module _ (g : Given) (made : Made) (m : IsMade (rows_under g) g.script g.squash made) where
  pub told_printed : (n : ℕ) (first later : List (List ℕ)) → n ≡ length g.layers → first ≡ map call_name g.script.first → later ≡ map call_name (later_calls g.script) → told n first later made ≡ printed g m.filed (squash_of m.upper g.squash)
  told_printed n first later many a b =
      let now = opened (rows_under g) in
      let replies = map response_of made.replies.items in
      let rest = λ (n : ℕ) (p : ℕ × List ℕ) (w : Result (ℕ × List ℕ) Fault) (x y : List ℕ). pile_line n made.rows ++ (x ++ (filed_line p.0 (length p.1) ++ (y ++ whole_text (n + 1) w))) in
      ap (λ n. told n first later made) many
      ∙ ap (λ z. told (length g.layers) z later made) a
      ∙ ap (λ z. told (length g.layers) (map call_name g.script.first) z made) b
      ∙ ap (λ x. rest (length g.layers) (held made.filed) (held_whole made.whole) x (texts (map call_name (later_calls g.script)) (drop (length (map call_name g.script.first)) replies))) (first_texts now g.script.first (later_calls g.script) replies m.replies)
      ∙ ap (λ y. rest (length g.layers) (held made.filed) (held_whole made.whole) (replies_text now g.script.first) y) (later_texts now g.script.first (later_calls g.script) replies m.replies)
      ∙ ap (λ p. rest (length g.layers) p (held_whole made.whole) (replies_text now g.script.first) (replies_text (afterwards now g.script.first) (later_calls g.script))) m.file
      ∙ ap (λ w. rest (length g.layers) (file_of m.filed) w (replies_text now g.script.first) (replies_text (afterwards now g.script.first) (later_calls g.script))) m.whole
      ∙ ap (λ r. pile_line (length g.layers) r ++ (replies_text now g.script.first ++ (filed_text m.filed ++ (replies_text (afterwards now g.script.first) (later_calls g.script) ++ whole_text (length g.layers + 1) (result_map_both file_of (λ f. f) (squash_of m.upper g.squash)))))) m.rows
      ∙ ap (λ t. pile_line (length g.layers) (length g.squash) ++ (replies_text now g.script.first ++ (filed_text m.filed ++ (replies_text (afterwards now g.script.first) (later_calls g.script) ++ t)))) (whole_same (length g.layers + 1) (squash_of m.upper g.squash))

-- ---- the next reply

texts_more : (n : List ℕ) (ns : List (List ℕ)) (r : Response) (rs : List Response) → texts (n ∷ ns) (r ∷ rs) ≡ reply_text n r ++ texts ns rs
unfolding texts
texts_more n ns r rs = refl

no_names : (rs : List Response) → texts [] rs ≡ []
unfolding texts
no_names rs = refl

no_replies : (ns : List (List ℕ)) → texts ns [] ≡ []
unfolding texts
no_replies [] = refl
no_replies (n ∷ ns) = refl

-- what is told so far, and what is to be told of names and replies that are left
module _ (ns : List (List ℕ)) (rs : List Response) (so_far whole : List ℕ) (is : so_far ++ texts ns rs ≡ whole) where
  pub one_told : (n : List ℕ) (ms : List (List ℕ)) (r : Response) (qs : List Response) (text : List ℕ) → ns ≡ n ∷ ms → rs ≡ r ∷ qs → text ≡ so_far ++ reply_text n r → text ++ texts ms qs ≡ whole
  one_told n ms r qs text a b t =
      ap (λ z. z ++ texts ms qs) t
      ∙ append_assoc so_far (reply_text n r) (texts ms qs)
      ∙ ap (λ z. so_far ++ z) (sym (texts_more n ms r qs) ∙ ap (λ z. texts z (r ∷ qs)) (sym a) ∙ ap (texts ns) (sym b))
      ∙ is

  pub all_told : (ns ≡ []) ⊎ (rs ≡ []) → so_far ≡ whole
  all_told none = sym (append-nil so_far) ∙ ap (λ z. so_far ++ z) (sym (ended none)) ∙ is where
    ended : (ns ≡ []) ⊎ (rs ≡ []) → texts ns rs ≡ []
    ended (inl a) = ap (λ z. texts z rs) a ∙ no_names rs
    ended (inr b) = ap (texts ns) b ∙ no_replies ns

-- ---- the names of the calls

module _ (script : Script) (ns : List (Bor (List ℕ))) where
  pub first_names : map (λ s. s.now) ns ≡ map (λ c. call_name (request_of c)) script.first.items → map (λ s. s.now) ns ≡ map call_name (requests_of script).first
  first_names h = h ∙ names_are script.first.items

  pub later_names : MatchOption script.later (ns ≡ []) (λ cs. map (λ s. s.now) ns ≡ map (λ c. call_name (request_of c)) cs.items) → map (λ s. s.now) ns ≡ map call_name (later_calls (requests_of script))
  later_names h = go script.later h where
    go : (o : Option (Vec Call Global)) → MatchOption o (ns ≡ []) (λ cs. map (λ s. s.now) ns ≡ map (λ c. call_name (request_of c)) cs.items) → map (λ s. s.now) ns ≡ map call_name (unwrap_or (option_map (λ cs. map request_of cs.items) o) [])
    go None h = ap (map (λ s. s.now)) h
    go (Some cs) h = h ∙ names_are cs.items

-- there are at least as many replies as first calls
pub replied : (e : List Row) (s : Requests) (lower : List MarkRow) (made : Made) → IsMade e s lower made → (ns : List (Bor (List ℕ))) → map (λ s. s.now) ns ≡ map call_name s.first → length ns ≤ length made.replies.items
replied e s lower made m ns h =
    let names : length ns ≡ length s.first = sym (length-map ns (λ s. s.now)) ∙ ap length h ∙ length-map s.first call_name in
    let replies : length made.replies.items ≡ length (s.first ++ later_calls s) = sym (length-map made.replies.items response_of) ∙ ap length m.replies ∙ length-answers (opened e) (s.first ++ later_calls s) in
    omega (arith, names, replies, length-append s.first (later_calls s))

-- ---- the file of all layers

pub whole_files : (r : Result (List MarkRow) Fault) → option_map (λ (f : ℕ × List ℕ). f.1) (result_ok (result_map_both file_of (λ f. f) r)) ≡ option_map encoded (result_ok r)
whole_files (Ok m) = refl
whole_files (Err f) = refl
