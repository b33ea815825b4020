-- What a keyword's reader finds is the number of the keyword. Assumes nothing.
use Rattle.std.proofs.Common.{◌≡◌, ℕ, List, Some, None, Ok, Err, Option, Result, MatchResult, refl, ap, ◌∙◌}
use Rattle.std.specs.Option.{ok_or}
use Rattle.words.specs.declared.fault.Cause.{Cause}
use Rattle.words.specs.declared.fault.Cause.TheVariants.{Value}
use Rattle.paths.specs.Steps.{and_then}
use Rattle.trees.specs.declared.entry.Entry.TheVariants.{File}
use Rattle.mtree.specs.Lexed.{tail}
use Rattle.mtree.specs.Numbers.{mode_of, size_of, content_of}
use Rattle.mtree.specs.Keywords.{mode_name, size_name, content_name, expected, valued, number, no_more, file_of}

valued_is : (o : Option ℕ) → ok_or o Value ≡ valued o
valued_is None = refl
valued_is (Some n) = refl

pub number_is : (rule : List ℕ → Option ℕ) (name : List ℕ) (ks : List (List ℕ)) (q : Result ℕ Cause) (P : List ℕ → Option ℕ → Type 0) → ((v : List ℕ) (r : Option ℕ) → P v r → r ≡ rule v) → MatchResult (expected name ks) (λ v. (r : Option ℕ) × P v r × (q ≡ ok_or r Value)) (λ e. q ≡ Err e) → q ≡ number rule name ks
number_is rule name ks q P f h = go (expected name ks) h where
  go : (x : Result (List ℕ) Cause) → MatchResult x (λ v. (r : Option ℕ) × P v r × (q ≡ ok_or r Value)) (λ e. q ≡ Err e) → q ≡ and_then x (λ v. valued (rule v))
  go (Ok v) k = k.2 ∙ valued_is k.0 ∙ ap valued (f v k.0 k.1)
  go (Err e) k = k

-- the keywords of a file, where the first are read and the next is refused
module _ (ks : List (List ℕ)) (m : ℕ) (e : Cause) (mode : Ok m ≡ number mode_of mode_name ks) where
  pub size_refused : Err e ≡ number size_of size_name (tail ks) → Err e ≡ file_of ks
  size_refused size =
      ap (λ r. and_then r (λ s. and_then (number content_of content_name (tail (tail ks))) (λ c. no_more (tail (tail (tail ks))) (File (record { mode = m; size = s; content = c }))))) size
      ∙ ap (λ r. and_then r (λ m. and_then (number size_of size_name (tail ks)) (λ s. and_then (number content_of content_name (tail (tail ks))) (λ c. no_more (tail (tail (tail ks))) (File (record { mode = m; size = s; content = c })))))) mode

  pub content_refused : (s : ℕ) → Ok s ≡ number size_of size_name (tail ks) → Err e ≡ number content_of content_name (tail (tail ks)) → Err e ≡ file_of ks
  content_refused s size content =
      ap (λ r. and_then r (λ c. no_more (tail (tail (tail ks))) (File (record { mode = m; size = s; content = c })))) content
      ∙ ap (λ r. and_then r (λ s. and_then (number content_of content_name (tail (tail ks))) (λ c. no_more (tail (tail (tail ks))) (File (record { mode = m; size = s; content = c }))))) size
      ∙ ap (λ r. and_then r (λ m. and_then (number size_of size_name (tail ks)) (λ s. and_then (number content_of content_name (tail (tail ks))) (λ c. no_more (tail (tail (tail ks))) (File (record { mode = m; size = s; content = c })))))) mode
