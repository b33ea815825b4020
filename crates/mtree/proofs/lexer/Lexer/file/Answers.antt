use Rattle.std.proofs.Common.{rules, ◌≡◌, Ok, Err, ap, ◌∙◌}
use Rattle.mtree.specs.Lexed.{fields_left, tail}
use Rattle.mtree.specs.Numbers.{mode_of, size_of, content_of}
use Rattle.mtree.specs.Keywords.{mode_name, size_name, content_name, number}
use Rattle.mtree.proofs.Reading.{number_is, size_refused, content_refused}
use Rattle.mtree.proofs.lexer.Lexer.file.Goals as goal

pub returns-in_err-size : goal.returns-in_err-size
returns-in_err-size c =
    let ks = fields_left c.args.self.now in
    let m = number_is mode_of mode_name ks (Ok c.in_ok-mode.mode) _ (λ v r p. search rules) c.in_ok-mode.ensures.value in
    let s = number_is size_of size_name (fields_left c.number.new.self) (Err c.in_err-size.field-0.0) _ (λ v r p. search rules) c.in_err-size.ensures.value in
    let e : c.from_residual-in_err-size.result ≡ Err c.in_err-size.field-0.0 = search rules in
    e ∙ size_refused ks c.in_ok-mode.mode c.in_err-size.field-0.0 m (s ∙ ap (number size_of size_name) c.number.ensures.after)

pub returns-in_err-content : goal.returns-in_err-content
returns-in_err-content c =
    let ks = fields_left c.args.self.now in
    let m = number_is mode_of mode_name ks (Ok c.in_ok-mode.mode) _ (λ v r p. search rules) c.in_ok-mode.ensures.value in
    let s = number_is size_of size_name (fields_left c.number.new.self) (Ok c.in_ok-size.size) _ (λ v r p. search rules) c.in_ok-size.ensures.value in
    let n = number_is content_of content_name (fields_left c.number-2.new.self) (Err c.in_err-content.field-0.0) _ (λ v r p. search rules) c.in_err-content.ensures.value in
    let e : c.from_residual-in_err-content.result ≡ Err c.in_err-content.field-0.0 = search rules in
    let after = c.number-2.ensures.after ∙ ap tail c.number.ensures.after in
    e ∙ content_refused ks c.in_ok-mode.mode c.in_err-content.field-0.0 m c.in_ok-size.size (s ∙ ap (number size_of size_name) c.number.ensures.after) (n ∙ ap (number content_of content_name) after)
