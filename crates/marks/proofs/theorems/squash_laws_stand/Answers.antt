use Rattle.marks.proofs.Merges.{layer_parts}
use Rattle.trees.proofs.Closed.{tree_parts}
use Rattle.marks.proofs.Squashes.{at-squashed, cut-squashed, layered-squashed, merged-squashed, squashed-squashed, squashed-empty, empty-squashed, squashed_least, squashed_most}
use Rattle.marks.proofs.theorems.squash_laws_stand.Goals as goal

pub returns : goal.returns
returns c = λ u l a b. record {
  is_layer = layered-squashed u l a b;
  squash_at = at-squashed u l;
  cuts = cut-squashed u l;
  lays = λ e t. merged-squashed u l e (tree_parts e t).0;
  associates = λ k d. squashed-squashed u l k (layer_parts k d).0;
  over_empty = squashed-empty u (layer_parts u a).0;
  empty_over = empty-squashed l (layer_parts l b).0;
  rows_least = squashed_least u l (layer_parts u a).0 (layer_parts l b).0;
  rows_sum = squashed_most u l (layer_parts u a).0 (layer_parts l b).0;
}
