use Rattle.std.proofs.Common.{◌≡◌, ◌<◌, eqb, false, length, take, rules, sym, ap, ◌∙◌}
use Rattle.std.specs.Cmp.Lexicographic.{pointwise}
use Rattle.paths.specs.Names.{split, same}
use Rattle.layer_fields.specs.Texts.{marker_text}
use Rattle.layer_files.proofs.Markers.{marker_off, marker_tail}
use Rattle.layer_files.proofs.read.marker.is_marker_of.Goals as goal

pub returns-in_default : goal.returns-in_default
returns-in_default c =
    let d = c.as_bytes-dir.result.now in
    let off : pointwise eqb (take (length d) c.args.text.now) d ≡ false = c.in_default.ensures.cases in
    sym (ap (λ d. same (marker_text (split d)) c.args.text.now) (sym c.as_bytes-dir.ensures) ∙ marker_off d c.args.text.now off)

pub returns : goal.returns
returns c =
    let d = c.as_bytes-dir.result.now in
    let s = c.args.text.now in
    let h = c.in-Some.ensures.cases in
    let some : 0 < length d = search rules in
    marker_tail d s c.in-Some.rest.now some h.0 h.1 c.strip_prefix-2.result c.strip_prefix-2.ensures.cases c.is_some_and.result (search rules)
    ∙ ap (λ d. same (marker_text (split d)) s) c.as_bytes-dir.ensures
