use Rattle.std.proofs.Common.{◌≡◌, refl, ◌+◌, ◌∙◌, eqb, MatchResult, IsOk, length, drop, rules, ap, sym, arith}
use Rattle.std.proofs.lemmas.Fn.{always_returns_same}
use Rattle.std.proofs.lemmas.List.{take_rest, drop-drop, drop_at, length-drop, length-append}
use Rattle.std.proofs.lemmas.Result.{err_from_is_err_and}
use Rattle.std.specs.List.{IsFirstMatchOrLen}
use Rattle.std.specs.Slice.Iter.{split_inclusive_rest}
use Rattle.manifests.specs.Manifests.{fault_at}
use Rattle.manifests.specs.Readers.{so_far}
use Rattle.manifests.proofs.ReadLines.{line_refused, line_taken, text_begins, text_ends}
use Rattle.manifests.proofs.reader.Reader.fill.Goals as goal

pub loop-line-init : goal.loop-line-init
loop-line-init c =
    let text = c.args.text.now in
    record {
      rest = ap split_inclusive_rest c.into_iter-line-iterator.ensures.into_iter_gives ∙ c.split_inclusive-line-items.ensures.rest ∙ take_rest text 7;
      within = search rules;
      limit = refl;
      rows = text_begins c.args.self.now.limit text (so_far c.args.self.now) (sym c.is_header.ensures ∙ c.if-not-is_header.false) c.requires;
    }

pub returns-in_err-map_err-clause-rows : goal.returns-in_err-map_err-clause-rows
returns-in_err-map_err-clause-rows c =
    let p = err_from_is_err_and c.from_residual.result c.from_residual.ensures.1 in
    let f = c.in_err-map_err.field-0.0 in
    let e : MatchResult c.read_line.result (λ _. ⊥) (λ e. f ≡ fault_at c.loop-line.at e) = search rules in
    let b = c.in-Some.ensures.steps in
    let i = b.1.0 in
    let rest = split_inclusive_rest c.loop-line.line-iterator in
    let first : IsFirstMatchOrLen (λ x. eqb x 10) rest i = (b.1.2 (λ x. eqb x 10) (always_returns_same _ _ _ (λ a r f h. search rules))).1 in
    let stops = line_refused c.loop-line.self.limit c.loop-line.at (so_far c.loop-line.self) rest c.in-Some.line.now _ b.0 i b.1.1 first b.2 c.read_line.result f _ e c.read_line.ensures.rows in
    rw (p.1, p.2) (c.loop-line.invariant.rows ∙ rw c.loop-line.invariant.rest at stops)

pub loop-line-preserved : goal.loop-line-preserved
loop-line-preserved c =
    let b = c.in-Some.ensures.steps in
    let i = b.1.0 in
    let x = c.in-Some.line.now in
    let rest = split_inclusive_rest c.loop-line.line-iterator in
    let more = split_inclusive_rest c.next.new.self in
    let text = c.args.text.now in
    let at = c.loop-line.at in
    let first : IsFirstMatchOrLen (λ x. eqb x 10) rest i = (b.1.2 (λ x. eqb x 10) (always_returns_same _ _ _ (λ a r f h. search rules))).1 in
    let ok : IsOk c.read_line.result = search rules in
    let turns = line_taken c.loop-line.self.limit at (so_far c.loop-line.self) rest x more b.0 i b.1.1 first b.2 c.read_line.result (so_far c.read_line.new.self) _ ok c.read_line.ensures.rows in
    let is = c.loop-line.invariant.rest in
    let more_is : more ≡ drop (at + length x) text = sym (drop_at x more (length x) refl) ∙ ap (drop (length x)) (sym b.0 ∙ is) ∙ drop-drop (length x) at text in
    record {
      rest = more_is;
      within = omega (arith, ap length (sym b.0 ∙ is), length-append x more, length-drop at text, c.loop-line.invariant.within);
      limit = c.read_line.ensures.limit ∙ c.loop-line.invariant.limit;
      rows = rw c.read_line.ensures.limit (c.loop-line.invariant.rows ∙ rw (is, more_is) at turns);
    }

pub returns-clause-rows : goal.returns-clause-rows
returns-clause-rows c =
    let ends = text_ends c.loop-line.self.limit c.loop-line.at (so_far c.loop-line.self) (split_inclusive_rest c.loop-line.line-iterator) c.in-None.ensures.steps.0 in
    c.loop-line.invariant.rows ∙ rw c.loop-line.invariant.rest at ends
