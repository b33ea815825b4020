-- `make_refit` meets its contract. Assumes nothing.
use Rattle.std.proofs.Common.{◌≡◌, ◌∙◌, ℕ, [], map, length, Ok, List, vec_items, sym, ap, subst, rules}
use Rattle.std.specs.Option.{option_map}
use Rattle.std.specs.Result.{result_ok}
use Rattle.std.proofs.lemmas.List.{length-map}
use Rattle.std.proofs.lemmas.Result.{err_from_is_err_and}
use Rattle.rows.specs.Sorts.{kept}
use Rattle.layers.specs.Layers.{marks_of}
use Rattle.archive.specs.Groups.{laid_all}
use Rattle.scripts.specs.Scripts.{requests_of}
use Rattle.refits.specs.Judging.{Given, base_of, layers_from, calls_of, squash_in, judged}
use Rattle.refits.specs.Refits.{Tells}
use Rattle.refits.proofs.Judged.{ends, refused_base, refused_layers, refused_script, refused_squash, all_given}
use Rattle.refits.proofs.Ends.{made_given}
use Rattle.refits.proofs.Told.{first_names, later_names, replied, told_printed, whole_files}
use Rattle.refits.proofs.report.make_refit.Goals as goal

pub read_base-requires : goal.read_base-requires
read_base-requires c = c.as_mut_slice.ensures.len ∙ c.in_ok-rows.ensures.len

pub returns-in_err-base : goal.returns-in_err-base
returns-in_err-base c =
    let files = map vec_items c.args.layers.now in
    let p = err_from_is_err_and c.from_residual-in_err-base.result c.from_residual-in_err-base.ensures.1 in
    rw (p.1, p.2) (ends (judged c.args.base.now files c.args.script.now) (base_of c.args.base.now) c.in_err-base.field-0.0 c.in_err-base.ensures (refused_base c.args.base.now files c.args.script.now))

pub returns-in_err-layers : goal.returns-in_err-layers
returns-in_err-layers c =
    let files = map vec_items c.args.layers.now in
    let p = err_from_is_err_and c.from_residual-in_err-layers.result c.from_residual-in_err-layers.ensures.1 in
    rw (p.1, p.2) (ends (judged c.args.base.now files c.args.script.now) (layers_from 1 [] files) c.in_err-layers.field-0.0 c.in_err-layers.ensures (refused_layers c.args.base.now files c.args.script.now (kept c.in_ok-base.base.rows) c.in_ok-base.ensures))

pub returns-in_err-calls : goal.returns-in_err-calls
returns-in_err-calls c =
    let files = map vec_items c.args.layers.now in
    let p = err_from_is_err_and c.from_residual-in_err-calls.result c.from_residual-in_err-calls.ensures.1 in
    rw (p.1, p.2) (ends (judged c.args.base.now files c.args.script.now) (calls_of c.args.script.now) c.in_err-calls.field-0.0 c.in_err-calls.ensures (refused_script c.args.base.now files c.args.script.now (kept c.in_ok-base.base.rows) c.in_ok-base.ensures (map marks_of c.in_ok-layers.layers.items) c.in_ok-layers.ensures))

pub returns-in_err-made : goal.returns-in_err-made
returns-in_err-made c =
    let files = map vec_items c.args.layers.now in
    let ms = map marks_of c.in_ok-layers.layers.items in
    let p = err_from_is_err_and c.from_residual-in_err-made.result c.from_residual-in_err-made.ensures.1 in
    rw (p.1, p.2) (ends (judged c.args.base.now files c.args.script.now) (squash_in ms) c.in_err-made.field-0.0 c.in_err-made.ensures (refused_squash c.args.base.now files c.args.script.now (kept c.in_ok-base.base.rows) c.in_ok-base.ensures ms c.in_ok-layers.ensures (requests_of c.in_ok-calls.calls) c.in_ok-calls.ensures))

pub tell-requires : goal.tell-requires
tell-requires c =
    let ms = map marks_of c.in_ok-layers.layers.items in
    let s = requests_of c.in_ok-calls.calls in
    let e = laid_all ms (kept c.in_ok-base.base.rows) in
    let m = made_given e s ms c.in_ok-made.made (squash_in ms) c.in_ok-made.ensures in
    record {
      few = search rules;
      replied = replied e s m.0 c.in_ok-made.made m.2 c.in_ok-names.names.first.items (first_names c.in_ok-calls.calls c.in_ok-names.names.first.items c.in_ok-names.ensures.first);
    }

pub returns : goal.returns
returns c =
    let files = map vec_items c.args.layers.now in
    let rows = kept c.in_ok-base.base.rows in
    let ms = map marks_of c.in_ok-layers.layers.items in
    let calls = c.in_ok-calls.calls in
    let s = requests_of calls in
    let e = laid_all ms rows in
    let made = c.in_ok-made.made in
    let m = made_given e s ms made (squash_in ms) c.in_ok-made.ensures in
    let names = c.in_ok-names.names in
    let g : Given = record { rows = rows; layers = ms; script = s; squash = m.0 } in
    let many : c.len-count.result ≡ length c.in_ok-layers.layers.items = search rules in
    let all = all_given c.args.base.now files c.args.script.now rows c.in_ok-base.ensures ms c.in_ok-layers.ensures s c.in_ok-calls.ensures m.0 m.1 in
    subst (λ z. Tells z (Ok (record { text = c.in_ok-text.text; layer = made.filed.bytes; whole = c.bytes_of.result }))) (sym all) (record {
      filed = m.2.filed;
      left = m.2.left;
      upper = m.2.upper;
      left_at_end = m.2.left_at_end;
      text = c.in_ok-text.ensures ∙ told_printed g made m.2 c.len-count.result (map (λ s. s.now) names.first.items) (map (λ s. s.now) names.later.items) (many ∙ sym (length-map c.in_ok-layers.layers.items marks_of)) (first_names calls names.first.items c.in_ok-names.ensures.first) (later_names calls names.later.items c.in_ok-names.ensures.later);
      layer = ap (λ (f : ℕ × List ℕ). f.1) m.2.file;
      whole = c.bytes_of.ensures ∙ ap (λ r. option_map (λ (f : ℕ × List ℕ). f.1) (result_ok r)) m.2.whole ∙ whole_files _;
    })
