-- `make` meets its contract. Assumes nothing.
use Rattle.std.proofs.Common.{◌≡◌, ◌∙◌, ℕ, [], ◌++◌, map, length, take, is_ok, true, Ok, IfOk, sym, ap, subst}
use Rattle.std.specs.Result.{IsOkAnd}
use Rattle.std.proofs.lemmas.List.{map-append, with_items_is}
use Rattle.layers.specs.Layers.{marks_of}
use Rattle.layer_files.specs.Reads.{decoded}
use Rattle.archive.specs.Calls.{request_of, response_of}
use Rattle.archive.specs.Groups.{grouped, laid_all}
use Rattle.scripts.specs.Scripts.{requests_of}
use Rattle.refits.specs.Steps.{held, file_in, Cut}
use Rattle.refits.proofs.Ends.{no_squash}
use Rattle.refits.proofs.Files.{filed_accepted, whole_accepted, made_is, filing_at, regrouping_at, rows_at, refused_at}
use Rattle.refits.proofs.making.make.Goals as goal

pub returns-in-Err : goal.returns-in-Err
returns-in-Err g c =
    let ms = map marks_of c.args.layers.items in
    let s = requests_of c.args.calls in
    no_squash (laid_all ms (g.T.Tree.entries c.args.base).rows) s ms c.in-Err.fault c.refused.result (refused_at ms c.in_ok-made.made c.in-Err.fault c.new.result.items c.in-Err.is c.new.ensures.items c.in_ok-made.ensures.refused) c.refused.ensures

pub with_files-requires : goal.with_files-requires
with_files-requires g c =
    let base = (g.T.Tree.entries c.args.base).rows in
    let ls = c.args.layers.items in
    let s = requests_of c.args.calls in
    let t = c.in-Ok.all in
    let old = c.as_mut_slice.result.now in
    let old2 = c.as_mut_slice-2.result.now in
    let new = c.run_all.new.layer_file in
    let new2 = c.run_all.new.whole_file in
    let room = c.as_mut_slice.ensures.len ∙ c.in_ok-layer.ensures.len in
    let room2 = c.as_mut_slice-2.ensures.len ∙ c.in_ok-whole.ensures.len in
    let is = with_items_is c.in_ok-layer.layer new (c.run_all.auto.layer_file ∙ c.as_mut_slice.ensures.len) in
    let is2 = with_items_is c.in_ok-whole.whole new2 (c.run_all.auto.whole_file ∙ c.as_mut_slice-2.ensures.len) in
    let later = c.later_calls.ensures in
    let all = map-append request_of c.args.calls.first.items c.later_calls.result.items ∙ ap (λ z. map request_of c.args.calls.first.items ++ z) later in
    let filed = filing_at base ls s old new old2 new2 room room2 c.in_ok-made.made t c.in-Ok.is (map request_of c.later_calls.result.items) later c.in_ok-made.ensures.filing in
    let whole = regrouping_at base ls s old new old2 new2 room room2 c.in_ok-made.made t c.in-Ok.is c.new.result.items (map request_of (c.args.calls.first.items ++ c.later_calls.result.items)) c.new.ensures.items all c.in_ok-made.ensures.regrouping in
    record {
      filed = subst (λ z. IsOkAnd t.files (λ f. is_ok (decoded (take f.layer z)) ≡ true)) (sym is) (filed_accepted base ls s old new old2 new2 room room2 (map response_of t.replies.items) t.files filed);
      whole = subst (λ z. IfOk t.files (λ f. IfOk f.whole (λ n. is_ok (decoded (take n z)) ≡ true))) (sym is2) (whole_accepted base ls s old new old2 new2 room room2 t.files whole);
    }

pub returns-in-Ok : goal.returns-in-Ok
returns-in-Ok g c =
    let base = (g.T.Tree.entries c.args.base).rows in
    let ls = c.args.layers.items in
    let s = requests_of c.args.calls in
    let t = c.in-Ok.all in
    let old = c.as_mut_slice.result.now in
    let old2 = c.as_mut_slice-2.result.now in
    let new = c.run_all.new.layer_file in
    let new2 = c.run_all.new.whole_file in
    let room = c.as_mut_slice.ensures.len ∙ c.in_ok-layer.ensures.len in
    let room2 = c.as_mut_slice-2.ensures.len ∙ c.in_ok-whole.ensures.len in
    let is = with_items_is c.in_ok-layer.layer new (c.run_all.auto.layer_file ∙ c.as_mut_slice.ensures.len) in
    let is2 = with_items_is c.in_ok-whole.whole new2 (c.run_all.auto.whole_file ∙ c.as_mut_slice-2.ensures.len) in
    let later = c.later_calls.ensures in
    let all = map-append request_of c.args.calls.first.items c.later_calls.result.items ∙ ap (λ z. map request_of c.args.calls.first.items ++ z) later in
    let filed = filing_at base ls s old new old2 new2 room room2 c.in_ok-made.made t c.in-Ok.is (map request_of c.later_calls.result.items) later c.in_ok-made.ensures.filing in
    let whole = regrouping_at base ls s old new old2 new2 room room2 c.in_ok-made.made t c.in-Ok.is c.new.result.items (map request_of (c.args.calls.first.items ++ c.later_calls.result.items)) c.new.ensures.items all c.in_ok-made.ensures.regrouping in
    let made = c.with_files.result in
    let did = c.with_files.ensures in
    made_is base ls s old new old2 new2 room room2 t.files made (map response_of t.replies.items) filed whole (ap (λ rs. map response_of rs.items) did.replies)
    (subst (λ (n : ℕ). IfOk (grouped [] (map marks_of ls)) (λ m. n ≡ length m)) (sym did.rows) (rows_at base ls s old new old2 new2 room room2 c.in_ok-made.made t c.in-Ok.is c.new.result.items c.new.ensures.items c.in_ok-made.ensures.pile))
    (subst (λ z. IfOk t.files (λ f. file_in z f.layer ≡ Ok (held made.filed))) is did.filed)
    (subst (λ z. IfOk t.files (λ f. Cut f.whole z made.whole)) is2 did.whole)
