use Rattle.std.proofs.Common.{◌∙◌}
use Rattle.mtree.proofs.Lexing.{first_token, more_token, fields_behind}
use Rattle.mtree.proofs.lexer.Lexer.token.Goals as goal

pub returns-then-at-eq0-clause-token : goal.returns-then-at-eq0-clause-token
returns-then-at-eq0-clause-token c = first_token c.args.self.now.line.now c.args.self.now.at c.in-Some.rest.now c.front_len.result c.in-Some.ensures.lookup.0.0 c.in-Some.ensures.lookup.0.2 c.front_len.ensures.value c.if-at-eq0.true

pub returns-then-at-eq0-clause-after : goal.returns-then-at-eq0-clause-after
returns-then-at-eq0-clause-after c = fields_behind c.args.self.now.line.now c.args.self.now.at c.in-Some.rest.now c.front_len.result c.in-Some.ensures.lookup.0.0 c.in-Some.ensures.lookup.0.2 c.front_len.ensures.value c.front_len.ensures.within

pub returns-else-at-eq0-clause-token : goal.returns-else-at-eq0-clause-token
returns-else-at-eq0-clause-token c = c.keyword_or_word.ensures ∙ more_token c.args.self.now.line.now c.args.self.now.at c.in-Some.rest.now c.front_len.result c.in-Some.ensures.lookup.0.0 c.in-Some.ensures.lookup.0.2 c.front_len.ensures.value c.if-at-eq0.false

pub returns-else-at-eq0-clause-after : goal.returns-else-at-eq0-clause-after
returns-else-at-eq0-clause-after c = fields_behind c.args.self.now.line.now c.args.self.now.at c.in-Some.rest.now c.front_len.result c.in-Some.ensures.lookup.0.0 c.in-Some.ensures.lookup.0.2 c.front_len.ensures.value c.front_len.ensures.within
