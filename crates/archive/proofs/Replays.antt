-- A list of calls, of which some have been made. Assumes nothing.
use Rattle.std.proofs.Common.{◌≡◌, ℕ, ◌+◌, ◌≤◌, List, [], ◌∷◌, ◌++◌, map, length, sym, refl, ap, ◌∙◌, append_assoc, arith}
use Rattle.std.proofs.lemmas.List.{map_push, append-nil}
use Rattle.marks.specs.Plain.{Plain}
use Rattle.archive.specs.declared.call.Call.{Call}
use Rattle.archive.specs.declared.reply.Reply.{Reply}
use Rattle.archive.specs.Calls.{Request, Response, request_of, response_of}
use Rattle.archive.specs.Answers.{answer, after}
use Rattle.archive.specs.Runs.{answers, afterwards}

-- the calls that are left, and the replies so far behind those before them, in a vector of that length and capacity, of which so much is to
-- be left over
pub record Replaying (s : Plain) (before : List Response) (spare : ℕ) (all left : List Call) (replies : List Reply) (len cap : ℕ) (now : Plain) : Type 0 where
  pub replied : map response_of replies ++ answers now (map request_of left) ≡ before ++ answers s (map request_of all)
  pub reached : afterwards now (map request_of left) ≡ afterwards s (map request_of all)
  pub room : len + length left + spare ≤ cap

answers_one : (s : Plain) (x : Request) (xs : List Request) → answers s (x ∷ xs) ≡ answer s x ∷ answers (after s x) xs
unfolding answers
answers_one s x xs = refl

afterwards_one : (s : Plain) (x : Request) (xs : List Request) → afterwards s (x ∷ xs) ≡ afterwards (after s x) xs
unfolding afterwards
afterwards_one s x xs = refl

answers_none : (s : Plain) → answers s [] ≡ []
unfolding answers
answers_none s = refl

afterwards_none : (s : Plain) → afterwards s [] ≡ s
unfolding afterwards
afterwards_none s = refl

module _ (s : Plain) (before : List Reply) (spare : ℕ) (all : List Call) where
  module _ (left : List Call) (replies : List Reply) (len cap : ℕ) (now : Plain) (f : Replaying s (map response_of before) spare all left replies len cap now) where
    pub one_made : (call : Call) (rest : List Call) (reply : Reply) (replies' : List Reply) (len' cap' : ℕ) (now' : Plain) → left ≡ call ∷ rest → response_of reply ≡ answer now (request_of call) → now' ≡ after now (request_of call) → replies' ≡ replies ++ reply ∷ [] → len' ≡ len + 1 → cap ≤ cap' → Replaying s (map response_of before) spare all rest replies' len' cap' now'
    one_made call rest reply replies' len' cap' now' l a n r k c = record {
      replied =
          ap (λ z. map response_of z ++ answers now' (map request_of rest)) r
          ∙ ap (λ z. z ++ answers now' (map request_of rest)) (map_push response_of replies reply)
          ∙ append_assoc (map response_of replies) (response_of reply ∷ []) (answers now' (map request_of rest))
          ∙ ap (λ z. map response_of replies ++ z ∷ answers now' (map request_of rest)) a
          ∙ ap (λ z. map response_of replies ++ answer now (request_of call) ∷ answers z (map request_of rest)) n
          ∙ ap (λ z. map response_of replies ++ z) (sym (answers_one now (request_of call) (map request_of rest)))
          ∙ ap (λ z. map response_of replies ++ answers now (map request_of z)) (sym l)
          ∙ f.replied;
      reached =
          ap (λ z. afterwards z (map request_of rest)) n
          ∙ sym (afterwards_one now (request_of call) (map request_of rest))
          ∙ ap (λ z. afterwards now (map request_of z)) (sym l)
          ∙ f.reached;
      room = omega (arith, f.room, ap length l, k, c);
    }

    pub all_made : left ≡ [] → (map response_of replies ≡ map response_of before ++ answers s (map request_of all)) × (len + spare ≤ cap) × (now ≡ afterwards s (map request_of all))
    all_made l = (
      sym (append-nil (map response_of replies)) ∙ ap (λ z. map response_of replies ++ z) (sym (answers_none now)) ∙ ap (λ z. map response_of replies ++ answers now (map request_of z)) (sym l) ∙ f.replied,
      omega (arith, f.room, ap length l),
      sym (afterwards_none now) ∙ ap (λ z. afterwards now (map request_of z)) (sym l) ∙ f.reached,
    )
