use Rattle.std.proofs.Common.{◌+◌, ◌∷◌, length, drop, sym, ap, ◌∙◌, arith}
use Rattle.std.proofs.lemmas.List.{drop_all}
use Rattle.paths.specs.Names.{prefixes, good, split}
use Rattle.paths.specs.Paths.{names, text}
use Rattle.paths.proofs.Joins.{next_prefix, prefixes_long, cut_at, cut-good, cut-names}
use Rattle.paths.proofs.prefixes.PrefixesIterator.next.Goals as goal

pub returns-then-self-clause-steps : goal.returns-then-self-clause-steps
returns-then-self-clause-steps c =
    let ns = names c.self.inside.path.now in
    let e = sym c.self.view_is ∙ drop_all c.self.inside.depth (prefixes ns) (omega (arith, prefixes_long ns, c.self.inside.whole, c.if-self.true)) in
    (e, e)

pub slice_bounds-of_good-end : goal.slice_bounds-of_good-end
slice_bounds-of_good-end c =
    let own = c.self.inside in
    own.stands ∙ ap length (sym (cut_at (text own.path.now) own.depth _ _ c.as_bytes-bytes.ensures own.stands))

pub of_good-prefix-requires : goal.of_good-prefix-requires
of_good-prefix-requires c =
    let own = c.self.inside in
    let s = text own.path.now in
    ap good (cut_at s own.depth _ _ c.as_bytes-bytes.ensures own.stands) ∙ cut-good s own.depth own.path.now.sound

pub returns-clause-steps : goal.returns-clause-steps
returns-clause-steps c =
    let own = c.self.inside in
    let k = own.depth in
    let s = text own.path.now in
    let cut = c.of_good-prefix.ensures ∙ cut_at s k _ _ c.as_bytes-bytes.ensures own.stands in
    sym c.self.view_is
    ∙ next_prefix (split s) k (omega (arith, own.whole, c.if-self.false))
    ∙ ap (λ p. p ∷ drop (k + 1) (prefixes (split s))) (sym (ap split cut ∙ cut-names s k own.path.now.sound))

pub returns-clause-goes : goal.returns-clause-goes
returns-clause-goes c =
    let ns = names c.self.inside.path.now in
    let e = next_prefix ns c.self.inside.depth (omega (arith, c.self.inside.whole, c.if-self.false)) in
    record { on = λ f. (tt, tt, omega (arith, ap length e, ap length c.self.view_is)); keeps = tt; rests = λ f. tt }
