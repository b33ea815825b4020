-- What a buffer holds is read again. Assumes nothing.
use Rattle.std.proofs.Common.{◌≡◌, ℕ, List, ◌++◌, length, take, drop, Ok, sym, ap, ◌∙◌}
use Rattle.std.proofs.lemmas.List.{take_at}
use Rattle.layers.specs.declared.layer.Layer.{Layer}
use Rattle.layers.specs.Layers.{marks_of}
use Rattle.layers.proofs.Few.{few-rows}
use Rattle.layer_files.specs.Files.{encoded}
use Rattle.layer_files.specs.Reads.{decoded}
use Rattle.layer_files.proofs.ForthRows.{reads-back}

pub read_again : (l : Layer) (n : ℕ) (old new : List ℕ) → n ≡ length (encoded (marks_of l)) → new ≡ encoded (marks_of l) ++ drop (length (encoded (marks_of l))) old → decoded (take n new) ≡ Ok (marks_of l)
read_again l n old new long is =
    let m = marks_of l in
    ap decoded (ap (take n) is ∙ take_at (encoded m) (drop (length (encoded m)) old) n (sym long)) ∙ reads-back m l.grown (few-rows l)
