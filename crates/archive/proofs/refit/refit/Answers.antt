use Rattle.std.proofs.Common.{◌∙◌, ◌++◌, map, Ok, sym, ap, refl, subst, arith}
use Rattle.std.proofs.lemmas.List.{length-map}
use Rattle.layers.specs.Layers.{marks_of}
use Rattle.sessions.specs.Sessions.{seen_of}
use Rattle.archive.specs.Calls.{request_of, response_of}
use Rattle.archive.specs.Groups.{grouped, laid_all}
use Rattle.archive.specs.Refits.{Filed, Regrouped}
use Rattle.archive.proofs.Refits.{replayed, filed_there, layer_left, any_order, whole_laid, files_told, whole_by}
use Rattle.archive.proofs.refit.refit.Goals as goal

pub returns-clause-replay : goal.returns-clause-replay
returns-clause-replay g c =
    let plan = c.args.plan in
    let before = c.args.replies.now in
    let first = length-map plan.first.items request_of in
    let there = length-map before.items response_of in
    replayed _ _ c.in_ok-rows.ensures.rows (map request_of plan.first.items) (map request_of plan.second.items) _ _ _ _ _ _ (omega (arith, first, there, before.ok.0, plan.first.ok.0)) c.in_ok-filed.ensures.exact

pub returns-clause-filing : goal.returns-clause-filing
returns-clause-filing g c =
    let plan = c.args.plan in
    let e = laid_all (map marks_of c.args.layers.items) (g.T.Tree.entries c.args.base).rows in
    subst (λ z. Filed e (map request_of plan.first.items) (map request_of plan.second.items) (map response_of c.args.replies.now.items) (map response_of c.refile.new.replies.items) z c.args.layer_file.now c.refile.new.buffer)
    (files_told (λ r. seen_of g.T.Tree.entries r.now.session) c.part-lower.result.0 _ _ c.in_ok-filed.filed c.parted-upper.result c.write_files-files.result c.parted-upper.ensures c.write_files-files.ensures)
    (filed_there _ _ c.in_ok-rows.ensures.rows (map request_of plan.first.items) (map request_of plan.second.items) _ _ _ _ _ c.in_ok-filed.ensures.exact)

pub returns-clause-regrouping : goal.returns-clause-regrouping
returns-clause-regrouping g c =
    let plan = c.args.plan in
    let ms = map marks_of c.args.layers.items in
    let rows = (g.T.Tree.entries c.args.base).rows in
    let calls = map request_of (plan.first.items ++ plan.second.items) in
    let lower = c.part-lower.result.0 in
    let order = ap (λ k. grouped k ms) (sym c.as_slice.ensures.value) ∙ c.in_ok-rows.ensures.exact ∙ ap (λ l. Ok (marks_of l)) (sym c.part-lower.ensures.layer) in
    whole_by (λ r. seen_of g.T.Tree.entries r.now.session) lower c.args.whole_file.now c.write_files-files.new.buffer c.in_ok-filed.filed c.parted-upper.result c.write_files-files.result
    (λ whole. Regrouped rows ms plan.order.items calls whole c.args.whole_file.now c.write_files-files.new.buffer)
    c.parted-upper.ensures c.write_files-files.ensures
    (λ f u whole is up answer buffer. record {
      lower = marks_of lower;
      in_order = order;
      upper = marks_of u;
      left = layer_left f.1 (λ r. seen_of g.T.Tree.entries r.now.session) _ u (laid_all ms rows) calls up (rw is at c.in_ok-filed.ensures.lower) c.in_ok-rows.ensures.rows ((rw is at c.in_ok-filed.ensures.after) refl);
      answer = answer;
      buffer = buffer;
      any_order = any_order plan.order.items c.args.layers.items lower u order;
      laid = whole_laid plan.order.items c.args.layers.items lower u order;
    })
