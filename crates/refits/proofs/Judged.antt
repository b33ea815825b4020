-- What a refusal, or all that is given, says of the judgement. Assumes nothing.
use Rattle.std.proofs.Common.{◌≡◌, ℕ, ◌+◌, List, [], ◌∷◌, ◌++◌, ap, ◌∙◌, Ok, Err, Result, string_bytes, sym, refl, subst}
use Rattle.paths.specs.Steps.{and_then}
use Rattle.trees.specs.Entries.{Row}
use Rattle.marks.specs.Marks.{MarkRow}
use Rattle.scripts.specs.Scripts.{Requests}
use Rattle.refits.specs.declared.stop.Stop.{Stop}
use Rattle.refits.specs.declared.stop.Stop.TheVariants.{Refused, Memory}
use Rattle.refits.specs.Judging.{Given, base_of, layer_of, layers_from, calls_of, squash_in, judged}
use Rattle.refits.specs.Refits.{Tells}
use Rattle.refits.specs.Steps.{Stops, Ends}

-- the refusal of a step, where the steps before it are not refused
pub ends : {B : Type 0} (g : Result Given (List ℕ)) (r : Result B (List ℕ)) (stop : Stop) → Stops stop r → ((line : List ℕ) → r ≡ Err line → g ≡ Err line) → Ends g (Err stop)
ends g r (Refused said) h k = subst (λ z. Tells z (Err said)) (sym (k (string_bytes said) h)) refl
ends g r (Memory e) h k = tt

pub stops : {B C : Type 0} (q : Result C (List ℕ)) (r : Result B (List ℕ)) (stop : Stop) → Stops stop r → ((line : List ℕ) → r ≡ Err line → q ≡ Err line) → Stops stop q
stops q r (Refused said) h k = k (string_bytes said) h
stops q r (Memory e) h k = tt

module _ (base : List ℕ) (files : List (List ℕ)) (text : List ℕ) where
  abbrev behind_script : List Row → List (List MarkRow) → Requests → Result Given (List ℕ)
  behind_script rows ms s = and_then (squash_in ms) (λ m. Ok (record { rows = rows; layers = ms; script = s; squash = m }))

  abbrev behind_layers : List Row → List (List MarkRow) → Result Given (List ℕ)
  behind_layers rows ms = and_then (calls_of text) (behind_script rows ms)

  abbrev behind_base : List Row → Result Given (List ℕ)
  behind_base rows = and_then (layers_from 1 [] files) (behind_layers rows)

  pub refused_base : (line : List ℕ) → base_of base ≡ Err line → judged base files text ≡ Err line
  refused_base line h = ap (λ r. and_then r behind_base) h

  module _ (rows : List Row) (is : base_of base ≡ Ok rows) where
    at_layers : judged base files text ≡ behind_base rows
    at_layers = ap (λ r. and_then r behind_base) is

    pub refused_layers : (line : List ℕ) → layers_from 1 [] files ≡ Err line → judged base files text ≡ Err line
    refused_layers line h = at_layers ∙ ap (λ r. and_then r (behind_layers rows)) h

    module _ (ms : List (List MarkRow)) (are : layers_from 1 [] files ≡ Ok ms) where
      at_script : judged base files text ≡ behind_layers rows ms
      at_script = at_layers ∙ ap (λ r. and_then r (behind_layers rows)) are

      pub refused_script : (line : List ℕ) → calls_of text ≡ Err line → judged base files text ≡ Err line
      refused_script line h = at_script ∙ ap (λ r. and_then r (behind_script rows ms)) h

      module _ (s : Requests) (asks : calls_of text ≡ Ok s) where
        at_squash : judged base files text ≡ behind_script rows ms s
        at_squash = at_script ∙ ap (λ r. and_then r (behind_script rows ms)) asks

        abbrev all : List MarkRow → Given
        all m = record { rows = rows; layers = ms; script = s; squash = m }

        pub refused_squash : (line : List ℕ) → squash_in ms ≡ Err line → judged base files text ≡ Err line
        refused_squash line h = at_squash ∙ ap (λ r. and_then r (λ m. Ok (all m))) h

        pub all_given : (m : List MarkRow) → squash_in ms ≡ Ok m → judged base files text ≡ Ok (all m)
        all_given m h = at_squash ∙ ap (λ r. and_then r (λ m. Ok (all m))) h

-- ---- the next file

layers_one : (n : ℕ) (ms : List (List MarkRow)) (f : List ℕ) (fs : List (List ℕ)) → layers_from n ms (f ∷ fs) ≡ and_then (layer_of n f) (λ m. layers_from (n + 1) (ms ++ m ∷ []) fs)
unfolding layers_from
layers_one n ms f fs = refl

pub layers_done : (n : ℕ) (ms : List (List MarkRow)) → layers_from n ms [] ≡ Ok ms
unfolding layers_from
layers_done n ms = refl

module _ (n : ℕ) (ms : List (List MarkRow)) (f : List ℕ) (fs : List (List ℕ)) where
  pub layer_taken : (m : List MarkRow) → layer_of n f ≡ Ok m → layers_from n ms (f ∷ fs) ≡ layers_from (n + 1) (ms ++ m ∷ []) fs
  layer_taken m h = layers_one n ms f fs ∙ ap (λ r. and_then r (λ m. layers_from (n + 1) (ms ++ m ∷ []) fs)) h

  pub layer_refused : (line : List ℕ) → layer_of n f ≡ Err line → layers_from n ms (f ∷ fs) ≡ Err line
  layer_refused line h = layers_one n ms f fs ∙ ap (λ r. and_then r (λ m. layers_from (n + 1) (ms ++ m ∷ []) fs)) h
