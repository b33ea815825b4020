use Rattle.std.proofs.Common.{sym}
use Rattle.marks.specs.Edits.{lacks}
use Rattle.marks.proofs.Merges.{at-merged, layer_parts, merged_tree}
use Rattle.marks.proofs.Edited.{layered-marked, entries-marked}
use Rattle.marks.proofs.Counts.{length-keys}
use Rattle.marks.proofs.Noted.{lacks-unnoted, lacks_most, length_marked, length-granted, lacks-granted}
use Rattle.marks.proofs.Remade.{plain-marked}
use Rattle.marks.proofs.theorems.laws_stand.Goals as goal

pub returns : goal.returns
returns c = λ m e lm le. record {
  merged_tree = merged_tree m e lm le;
  has_at = at-merged m e;
  leaves_layer = λ room p a h good. layered-marked m e lm le p good room (lacks m p) a h;
  one_change = λ room p. entries-marked m e lm le p room (lacks m p);
  plain_rules = λ room p. plain-marked m e lm le room (lacks m p) p;
  plain_rows = sym (length-keys m);
  plain_need = lacks-unnoted m;
  need_most = lacks_most m;
  rows_most = λ p. length_marked m e p (layer_parts m lm).0;
  rows_taken = λ room p a h r. length-granted m e lm le room (lacks m p) p a r h;
  need_none = λ room p a h r. lacks-granted m e lm le room (lacks m p) p a r h;
}
