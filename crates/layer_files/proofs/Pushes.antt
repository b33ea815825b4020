-- What is needed where pieces of a layer file are pushed. Assumes nothing.
use Rattle.std.proofs.Common.{append_assoc, append-nil}
use Rattle.std.proofs.lemmas.List.{length-append, length-take-le}
use Rattle.paths.proofs.Joins.{join_split}

pub ruleset pushes = (append_assoc, append-nil, length-append, length-take-le, join_split)
