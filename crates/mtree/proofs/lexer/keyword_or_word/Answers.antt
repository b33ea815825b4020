use Rattle.mtree.proofs.Lexing.{keyword_is}
use Rattle.mtree.proofs.lexer.keyword_or_word.Goals as goal

pub returns : goal.returns
returns c = keyword_is c.args.text.now c.in-Some.value.now c.args.at c.front_len-end.result c.front_len-end.ensures.value c.in-Some.ensures.lookup.0.0 c.in-Some.ensures.lookup.0.2
