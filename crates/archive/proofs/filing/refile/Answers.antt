use Rattle.std.proofs.Common.{◌≡◌, ◌∙◌, ◌++◌, map, sym, ap, append_assoc}
use Rattle.std.proofs.lemmas.List.{map-append}
use Rattle.marks.specs.Plain.{plain_of}
use Rattle.layers.proofs.Few.{few-rows}
use Rattle.sessions.specs.Sessions.{marks_in}
use Rattle.archive.specs.Calls.{request_of, response_of}
use Rattle.archive.specs.Answers.{plain_in}
use Rattle.archive.specs.Runs.{answers, afterwards, opened}
use Rattle.archive.proofs.Filings.{replies_on, after_on, marks_left, replies_first, plain_laid}
use Rattle.archive.proofs.filing.refile.Given as given
use Rattle.archive.proofs.filing.refile.Goals as goal

pub returns-in-Err-clause-exact : goal.returns-in-Err-clause-exact
returns-in-Err-clause-exact g c =
    let e = g.T.Tree.entries in
    let o = c.open-session in
    record {
      marks = marks_in c.make.new.session;
      left = record { is_layer = c.make.new.session.layer.grown; few = few-rows c.make.new.session.layer; leaves = marks_left e c.args.tree o.result o.ensures.marks o.ensures.lower c.args.first.items c.make.new.session c.make.ensures.lower c.make.ensures.after };
      buffer = c.file.ensures.after;
      reads_back = tt;
      answer = (c.in-Err.ensures.answer, replies_first e c.args.tree o.result o.ensures.marks o.ensures.lower c.args.first.items c.args.replies.now.items c.make.new.replies.items c.make.ensures.replies);
    }

-- the plain map that the first calls left, and that of the session on the file
left : (g : given.Over) (c : goal.After-make-2 g) → plain_of (marks_in c.make.new.session) (g.T.Tree.entries c.args.tree).rows ≡ afterwards (opened (g.T.Tree.entries c.args.tree).rows) (map request_of c.args.first.items)
left g c =
    let o = c.open-session in
    marks_left g.T.Tree.entries c.args.tree o.result o.ensures.marks o.ensures.lower c.args.first.items c.make.new.session c.make.ensures.lower c.make.ensures.after

stands : (g : given.Over) (c : goal.After-make-2 g) → plain_in g.U.Tree.entries c.in-Ok.filed.1 ≡ plain_of (marks_in c.make.new.session) (g.U.Tree.entries c.args.other).rows
stands g c = plain_laid g.U.Tree.entries c.args.other c.in-Ok.filed.1 (marks_in c.make.new.session) c.in-Ok.ensures.marks c.in-Ok.ensures.lower

replied : (g : given.Over) (c : goal.After-make-2 g) → map response_of c.make-2.new.replies.items ≡ map response_of c.args.replies.now.items ++ (answers (opened (g.T.Tree.entries c.args.tree).rows) (map request_of c.args.first.items) ++ answers (plain_of (marks_in c.make.new.session) (g.U.Tree.entries c.args.other).rows) (map request_of c.args.second.items))
replied g c =
    let o = c.open-session in
    let before = map response_of c.args.replies.now.items in
    let made = answers (opened (g.T.Tree.entries c.args.tree).rows) (map request_of c.args.first.items) in
    let first = replies_first g.T.Tree.entries c.args.tree o.result o.ensures.marks o.ensures.lower c.args.first.items c.args.replies.now.items c.make.new.replies.items c.make.ensures.replies in
    c.make-2.ensures.replies
    ∙ ap (λ z. z ++ answers (plain_in g.U.Tree.entries c.in-Ok.filed.1) (map request_of c.args.second.items)) first
    ∙ ap (λ s. (before ++ made) ++ answers s (map request_of c.args.second.items)) (stands g c)
    ∙ append_assoc before made (answers (plain_of (marks_in c.make.new.session) (g.U.Tree.entries c.args.other).rows) (map request_of c.args.second.items))

reached : (g : given.Over) (c : goal.After-make-2 g) → plain_in g.U.Tree.entries c.make-2.new.session ≡ afterwards (plain_of (marks_in c.make.new.session) (g.U.Tree.entries c.args.other).rows) (map request_of c.args.second.items)
reached g c = c.make-2.ensures.after ∙ ap (λ s. afterwards s (map request_of c.args.second.items)) (stands g c)

pub returns-clause-exact : goal.returns-clause-exact
returns-clause-exact g c = record {
  marks = marks_in c.make.new.session;
  left = record { is_layer = c.make.new.session.layer.grown; few = few-rows c.make.new.session.layer; leaves = left g c };
  buffer = c.file.ensures.after;
  reads_back = c.in-Ok.ensures.reads_back;
  answer = (c.in-Ok.ensures.answer, reached g c, replied g c);
}

pub returns-clause-filing : goal.returns-clause-filing
returns-clause-filing g c same =
    let e = (g.T.Tree.entries c.args.tree).rows in
    let before = map response_of c.args.replies.now.items in
    replied g c
    ∙ ap (λ z. before ++ z) (replies_on e (g.U.Tree.entries c.args.other).rows (marks_in c.make.new.session) (map request_of c.args.first.items) (map request_of c.args.second.items) (left g c) same)
    ∙ ap (λ z. before ++ answers (opened e) z) (sym (map-append request_of c.args.first.items c.args.second.items))

pub returns-clause-after : goal.returns-clause-after
returns-clause-after g c same =
    let e = (g.T.Tree.entries c.args.tree).rows in
    reached g c
    ∙ after_on e (g.U.Tree.entries c.args.other).rows (marks_in c.make.new.session) (map request_of c.args.first.items) (map request_of c.args.second.items) (left g c) same
    ∙ ap (afterwards (opened e)) (sym (map-append request_of c.args.first.items c.args.second.items))
