-- Good paths: what their names and their texts are. Assumes nothing.
use Rattle.std.proofs.Common.{◌≡◌, ℕ, ◌<◌, ◌≤◌, true, not, ◌&&◌, eqb, leb, List, [], ◌∷◌, ◌++◌, length, is_some, Some, None, Ok, Option, sym, refl, ap, ◌∙◌, subst, arith}
use Rattle.std.proofs.lemmas.Bool.{and_parts, and_from, not_from_false, cond-true, leb-true, le-leb}
use Rattle.std.specs.List.{AllByRecursion as All}
use Rattle.paths.specs.declared.Path.{Path}
use Rattle.paths.specs.declared.PathFault.{PathFault}
use Rattle.paths.specs.declared.PathFault.TheVariants.{TooLong}
use Rattle.paths.specs.Names.{split, join, plain, fault_in, fault, good, judge, judged}
use Rattle.paths.specs.Paths.{names, text}
use Rattle.paths.proofs.Joins.{Plain, good_parts, join_split, split_join, plain-from-fault}
use Rattle.rows.specs.Maps.{Names}
use Rattle.trees.specs.Entries.{fine}
use Rattle.trees.proofs.Answering.{fine_parts}
use Rattle.paths.proofs.Granted.{is_none}

abbrev pub Bytes : List ℕ → Type 0
Bytes s = All (λ b. b < 256) s

-- ---- what is judged to be good

good-fine : (s : List ℕ) → good s ≡ true → fine (split s) ≡ true
good-fine s h =
    let g = good_parts s h in
    let short : length (join (split s)) ≤ 120 = subst (λ l. length l ≤ 120) (sym (join_split s)) g.0 in
    and_from (not (is_some (fault_in 0 (split s)))) (leb (length (join (split s))) 120) (not_from_false (is_some (fault_in 0 (split s))) g.1) (le-leb (length (join (split s))) 120 short)

pub path_fine : (x : Path) → fine (names x) ≡ true
path_fine x = good-fine (text x) x.sound

pub judged-fine : (s : List ℕ) (p : Names) → judge s ≡ Ok p → fine p ≡ true
judged-fine s p h = go (fault s) refl h where
  go : (o : Option PathFault) → fault s ≡ o → judged (split s) o ≡ Ok p → fine p ≡ true
  go None f h =
      let is : split s ≡ p = cc in
      subst (λ z. fine z ≡ true) is (good-fine s (ap (λ o. not (is_some o)) f))
  go (Some e) f h = cc

-- ---- the bytes of a path

plain-bytes : (n : List ℕ) → plain n ≡ true → Bytes n
plain-bytes [] h = tt
plain-bytes (b ∷ bs) h =
    let p = and_parts (not (eqb b 0) && leb b 255) (not (eqb b 47) && plain bs) h in
    let q = and_parts (not (eqb b 0)) (leb b 255) p.0 in
    let r = and_parts (not (eqb b 47)) (plain bs) p.1 in
    let s = leb-true b 255 q.1 in
    (omega arith, plain-bytes bs r.1)

pub all_append : {A : Type 0} (P : A → Type 0) (a b : List A) → All P a → All P b → All P (a ++ b)
all_append P [] b h g = g
all_append P (x ∷ a) b h g = (h.0, all_append P a b h.1 g)

join-bytes : (p : Names) → Plain p → Bytes (join p)
join-bytes [] h = tt
join-bytes (n ∷ []) h = plain-bytes n h.0.1
join-bytes (n ∷ m ∷ p) h =
    let slash : 47 < 256 = omega arith in
    all_append (λ b. b < 256) n (47 ∷ join (m ∷ p)) (plain-bytes n h.0.1) (slash, join-bytes (m ∷ p) h.1)

-- ---- what the text is judged to be

module _ (p : Names) (f : fine p ≡ true) where
  pub plain-names : Plain p
  plain-names = plain-from-fault 0 p (fine_parts p f).0

  pub fine-short : length (join p) ≤ 120
  fine-short = leb-true (length (join p)) 120 (fine_parts p f).1

  pub fine-bytes : Bytes (join p)
  fine-bytes = join-bytes p plain-names

  pub split-fine : split (join p) ≡ p
  split-fine = split_join p plain-names

  faultless : fault (join p) ≡ None
  faultless =
      cond-true (leb (length (join p)) 120) (fault_in 0 (split (join p))) (Some TooLong) (fine_parts p f).1 ∙ ap (fault_in 0) split-fine ∙ is_none (fault_in 0 p) (fine_parts p f).0

  pub judge-fine : judge (join p) ≡ Ok p
  judge-fine = ap (judged (split (join p))) faultless ∙ ap Ok split-fine
