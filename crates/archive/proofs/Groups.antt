-- Layers squashed in an order: step by step, and what all orders give. Assumes nothing.
use Rattle.std.proofs.Common.{◌≡◌, ℕ, zero, suc, ◌<◌, ◌≤◌, Bool, true, false, cond, List, [], ◌∷◌, map, length, get_or, set, ltb, Ok, Err, Result, IfOk, MatchResult, sym, refl, ap, ◌∙◌, subst, arith}
use Rattle.std.proofs.lemmas.List.{map-set}
use Rattle.std.specs.List.{remove, AllByRecursion as All}
use Rattle.paths.specs.Steps.{and_then}
use Rattle.paths.proofs.Granted.{then_ok}
use Rattle.trees.specs.declared.fault.Fault.{Fault}
use Rattle.trees.specs.declared.fault.Fault.TheVariants.{NoRoom}
use Rattle.trees.specs.Entries.{Row, is_tree}
use Rattle.trees.proofs.Closed.{tree_parts}
use Rattle.marks.specs.Marks.{MarkRow, merged, layered}
use Rattle.marks.specs.Squash.{squashed}
use Rattle.marks.proofs.Merges.{layer_parts, merged_tree}
use Rattle.marks.proofs.Squashes.{layered-squashed, merged-squashed, squashed-squashed, squashed-empty, empty-squashed}
use Rattle.layers.specs.declared.layer.Layer.{Layer}
use Rattle.layers.specs.Layers.{marks_of}
use Rattle.layer_files.specs.Files.{encoded}
use Rattle.archive.specs.Groups.{squash_of, squash_at, from_lowest, grouped, laid_all}
use Rattle.archive.proofs.Opens.{merged_none}

-- ---- one step

pub lowest_none : (l : List MarkRow) → from_lowest l [] ≡ Ok l
unfolding from_lowest
lowest_none l = refl

lowest_one : (l u : List MarkRow) (ms : List (List MarkRow)) → from_lowest l (u ∷ ms) ≡ and_then (squash_of u l) (λ m. from_lowest m ms)
unfolding from_lowest
lowest_one l u ms = refl

pub grouped_none : (ms : List (List MarkRow)) → grouped [] ms ≡ from_lowest [] ms
unfolding grouped
grouped_none ms = refl

grouped_one : (k : ℕ) (ks : List ℕ) (ms : List (List MarkRow)) → grouped (k ∷ ks) ms ≡ and_then (squash_at k ms) (λ r. grouped ks r)
unfolding grouped
grouped_one k ks ms = refl

-- the next layer up, squashed or refused
module _ (l u : List MarkRow) (ms : List (List MarkRow)) where
  pub lowest_squashed : (m : List MarkRow) → squash_of u l ≡ Ok m → from_lowest l (u ∷ ms) ≡ from_lowest m ms
  lowest_squashed m h = lowest_one l u ms ∙ ap (λ r. and_then r (λ m. from_lowest m ms)) h

  pub lowest_refused : (f : Fault) → squash_of u l ≡ Err f → from_lowest l (u ∷ ms) ≡ Err f
  lowest_refused f h = lowest_one l u ms ∙ ap (λ r. and_then r (λ m. from_lowest m ms)) h

-- the next place of an order
module _ (k : ℕ) (ks : List ℕ) (ms : List (List MarkRow)) where
  pub grouped_squashed : (r : List (List MarkRow)) → squash_at k ms ≡ Ok r → grouped (k ∷ ks) ms ≡ grouped ks r
  grouped_squashed r h = grouped_one k ks ms ∙ ap (λ r. and_then r (λ z. grouped ks z)) h

  pub grouped_refused : (f : Fault) → squash_at k ms ≡ Err f → grouped (k ∷ ks) ms ≡ Err f
  grouped_refused f h = grouped_one k ks ms ∙ ap (λ r. and_then r (λ z. grouped ks z)) h

-- ---- one place

pub none_above : (k : ℕ) (ls : List Layer) → length ls ≤ suc k → squash_at k (map marks_of ls) ≡ Ok (map marks_of ls)
none_above k [] h = refl
none_above k (x ∷ []) h = refl
none_above zero (x ∷ y ∷ ls) h = absurd (omega (arith, h))
none_above (suc k) (x ∷ y ∷ ls) h = ap (λ r. and_then r (λ z. Ok (marks_of x ∷ z))) (none_above k (y ∷ ls) (omega (arith, h)))

behind : (l : List MarkRow) (r : Result (List MarkRow) Fault) (to : List MarkRow → List (List MarkRow)) → ◌≡◌ {A = Result (List (List MarkRow)) Fault} (and_then (and_then r (λ m. Ok (to m))) (λ z. Ok (l ∷ z))) (and_then r (λ m. Ok (l ∷ to m)))
behind l (Ok m) to = refl
behind l (Err f) to = refl

neighbours : (k : ℕ) (ls : List Layer) (u l : Layer) → suc k < length ls → u ≡ get_or ls (suc k) u → l ≡ get_or (remove ls (suc k)) k l → squash_at k (map marks_of ls) ≡ and_then (squash_of (marks_of u) (marks_of l)) (λ m. Ok (set (map marks_of (remove ls (suc k))) k m))
neighbours k [] u l n a b = absurd (omega (arith, n))
neighbours k (x ∷ []) u l n a b = absurd (omega (arith, n))
neighbours zero (x ∷ y ∷ ls) u l n a b = ap (λ z. and_then (squash_of (marks_of z) (marks_of x)) (λ m. Ok (m ∷ map marks_of ls))) (sym a) ∙ ap (λ z. and_then (squash_of (marks_of u) (marks_of z)) (λ m. Ok (m ∷ map marks_of ls))) (sym b)
neighbours (suc k) (x ∷ y ∷ ls) u l n a b =
    ap (λ r. and_then r (λ z. Ok (marks_of x ∷ z))) (neighbours k (y ∷ ls) u l (omega (arith, n)) a b)
    ∙ behind (marks_of x) (squash_of (marks_of u) (marks_of l)) (λ m. set (map marks_of (remove (y ∷ ls) (suc k))) k m)

-- the upper neighbour is taken out of the list, and the squash takes the place of the lower one
module _ (k j : ℕ) (ls rest : List Layer) (u l : Layer) (next : j ≡ suc k) (there : j < length ls) (upper : u ≡ get_or ls j u) (left : rest ≡ remove ls j) (lower : l ≡ get_or rest k l) where
  both : squash_at k (map marks_of ls) ≡ and_then (squash_of (marks_of u) (marks_of l)) (λ m. Ok (set (map marks_of rest) k m))
  both =
      let out : rest ≡ remove ls (suc k) = left ∙ ap (remove ls) next in
      neighbours k ls u l (omega (arith, next, there)) (subst (λ i. u ≡ get_or ls i u) next upper) (lower ∙ ap (λ z. get_or z k l) out)
      ∙ ap (λ z. and_then (squash_of (marks_of u) (marks_of l)) (λ m. Ok (set (map marks_of z) k m))) (sym out)

  pub place_squashed : (m : Layer) → squash_of (marks_of u) (marks_of l) ≡ Ok (marks_of m) → squash_at k (map marks_of ls) ≡ Ok (map marks_of (set rest k m))
  place_squashed m h = both ∙ ap (λ r. and_then r (λ m. Ok (set (map marks_of rest) k m))) h ∙ ap Ok (sym (map-set marks_of rest k m))

  pub place_refused : (f : Fault) → squash_of (marks_of u) (marks_of l) ≡ Err f → squash_at k (map marks_of ls) ≡ Err f
  place_refused f h = both ∙ ap (λ r. and_then r (λ m. Ok (set (map marks_of rest) k m))) h

-- ---- all orders

-- all layers squashed, whatever their number of rows
abbrev pub all_squashed : List (List MarkRow) → List MarkRow
all_squashed [] = []
all_squashed (l ∷ ms) = squashed (all_squashed ms) l

abbrev pub Layers : List (List MarkRow) → Type 0
Layers ms = All (λ m. layered m ≡ true) ms

pub all_layers : (ls : List Layer) → Layers (map marks_of ls)
all_layers [] = tt
all_layers (l ∷ ls) = (l.grown, all_layers ls)

-- what is not refused is the squash
squash_got : (u l m : List MarkRow) → squash_of u l ≡ Ok m → m ≡ squashed u l
squash_got u l m h = got (ltb 192 (length (squashed u l))) h where
  got : (t : Bool) → ◌≡◌ {A = Result (List MarkRow) Fault} (cond t (Err (NoRoom 0)) (Ok (squashed u l))) (Ok m) → m ≡ squashed u l
  got true k = cc
  got false k = cc

pub layered-all : (ms : List (List MarkRow)) → Layers ms → layered (all_squashed ms) ≡ true
layered-all [] a = refl
layered-all (l ∷ ms) a = layered-squashed (all_squashed ms) l (layered-all ms a.1) a.0

lowest_all : (l m : List MarkRow) (ms : List (List MarkRow)) → layered l ≡ true → Layers ms → from_lowest l ms ≡ Ok m → m ≡ squashed (all_squashed ms) l
lowest_all l m [] a b h =
    let is : l ≡ m = let e = sym (lowest_none l) ∙ h in cc in
    sym is ∙ sym (empty-squashed l (layer_parts l a).0)
lowest_all l m (u ∷ ms) a b h =
    let step = then_ok (squash_of u l) (λ m. from_lowest m ms) m (sym (lowest_one l u ms) ∙ h) in
    let is = squash_got u l step.0 step.1 in
    lowest_all step.0 m ms (ap layered is ∙ layered-squashed u l b.0 a) b.1 step.2
    ∙ ap (squashed (all_squashed ms)) is
    ∙ sym (squashed-squashed (all_squashed ms) u l (layer_parts l a).0)

-- neighbours squashed to one leave the squash of all
place_all : (k : ℕ) (ms r : List (List MarkRow)) → Layers ms → squash_at k ms ≡ Ok r → (all_squashed r ≡ all_squashed ms) × Layers r
place_all k [] r a h = let e : [] ≡ r = cc in (ap all_squashed (sym e), subst Layers e a)
place_all k (l ∷ []) r a h = let e : l ∷ [] ≡ r = cc in (ap all_squashed (sym e), subst Layers e a)
place_all zero (l ∷ u ∷ ms) r a h =
    let step = then_ok (squash_of u l) (λ m. Ok (m ∷ ms)) r h in
    let is = squash_got u l step.0 step.1 in
    let e : step.0 ∷ ms ≡ r = let k = step.2 in cc in (
      ap all_squashed (sym e) ∙ ap (squashed (all_squashed ms)) is ∙ sym (squashed-squashed (all_squashed ms) u l (layer_parts l a.0).0),
      subst Layers e (ap layered is ∙ layered-squashed u l a.1.0 a.0, a.1.1),
    )
place_all (suc k) (l ∷ u ∷ ms) r a h =
    let step = then_ok (squash_at k (u ∷ ms)) (λ z. Ok (l ∷ z)) r h in
    let rest = place_all k (u ∷ ms) step.0 a.1 step.1 in
    let e : l ∷ step.0 ≡ r = let k = step.2 in cc in
    (ap all_squashed (sym e) ∙ ap (λ z. squashed z l) rest.0, subst Layers e (a.0, rest.1))

-- every order that is not refused gives the squash of all
pub grouped_all : (ks : List ℕ) (ms : List (List MarkRow)) (m : List MarkRow) → Layers ms → grouped ks ms ≡ Ok m → m ≡ all_squashed ms
grouped_all [] ms m a h = lowest_all [] m ms refl a (sym (grouped_none ms) ∙ h) ∙ squashed-empty (all_squashed ms) (layer_parts (all_squashed ms) (layered-all ms a)).0
grouped_all (k ∷ ks) ms m a h =
    let step = then_ok (squash_at k ms) (λ r. grouped ks r) m (sym (grouped_one k ks ms) ∙ h) in
    let rest = place_all k ms step.0 a step.1 in
    grouped_all ks step.0 m rest.1 step.2 ∙ rest.0

-- laid on a tree, the squash of all is all of them laid one by one
pub all_laid : (ms : List (List MarkRow)) (e : List Row) → Layers ms → is_tree e ≡ true → merged (all_squashed ms) e ≡ laid_all ms e
all_laid [] e a t = merged_none e (tree_parts e t).0
all_laid (l ∷ ms) e a t = merged-squashed (all_squashed ms) l e (tree_parts e t).0 ∙ all_laid ms (merged l e) a.1 (merged_tree l e a.0 t)

-- ---- the same of what a call gave

module _ (ks : List ℕ) (ls : List Layer) where
  -- the layer that an order gave, or its refusal
  abbrev pub Grouped : Result Layer Fault → Type 0
  Grouped r = MatchResult r (λ l. grouped ks (map marks_of ls) ≡ Ok (marks_of l)) (λ f. grouped ks (map marks_of ls) ≡ Err f)

  got_all : (l : Layer) → Grouped (Ok l) → marks_of l ≡ all_squashed (map marks_of ls)
  got_all l h = grouped_all ks (map marks_of ls) (marks_of l) (all_layers ls) h

  -- whatever other order is not refused gives the same marks, and so the same file
  pub same_marks : (r : Result Layer Fault) → Grouped r → IfOk r (λ l. (other : List ℕ) (m : List MarkRow) → grouped other (map marks_of ls) ≡ Ok m → m ≡ marks_of l)
  same_marks (Ok l) h = λ other m g. grouped_all other (map marks_of ls) m (all_layers ls) g ∙ sym (got_all l h)
  same_marks (Err f) h = tt

  pub same_file : (r : Result Layer Fault) → Grouped r → IfOk r (λ l. (other : List ℕ) (m : List MarkRow) → grouped other (map marks_of ls) ≡ Ok m → encoded m ≡ encoded (marks_of l))
  same_file (Ok l) h = λ other m g. ap encoded (same_marks (Ok l) h other m g)
  same_file (Err f) h = tt

  pub same_laid : (r : Result Layer Fault) → Grouped r → IfOk r (λ l. (e : List Row) → is_tree e ≡ true → merged (marks_of l) e ≡ laid_all (map marks_of ls) e)
  same_laid (Ok l) h = λ e t. ap (λ z. merged z e) (got_all l h) ∙ all_laid (map marks_of ls) e (all_layers ls) t
  same_laid (Err f) h = tt
