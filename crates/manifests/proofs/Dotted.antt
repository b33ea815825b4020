-- The path word of a listed path reads back. Assumes nothing.
use Rattle.std.proofs.Common.{◌≡◌, true, Ok, ap, ◌∙◌}
use Rattle.paths.specs.Names.{join}
use Rattle.rows.specs.Maps.{Names}
use Rattle.trees.specs.Entries.{fine}
use Rattle.trees.proofs.Fine.{fine-bytes, judge-fine}
use Rattle.listing.specs.Lines.{dotted}
use Rattle.paths.specs.Steps.{map_err}
use Rattle.words.specs.declared.fault.Cause.TheVariants.{Path}
use Rattle.listing.proofs.Undoing.{dotted_back}
use Rattle.words.specs.Words.{judged_word, path_of}

pub path_back : (p : Names) → fine p ≡ true → path_of (dotted (join p)) ≡ Ok p
path_back p f = ap judged_word (dotted_back (join p) (fine-bytes p f)) ∙ ap (map_err Path) (judge-fine p f)
