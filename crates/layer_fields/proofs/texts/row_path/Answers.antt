use Rattle.std.proofs.Common.{rules, ◌≡◌, ◌++◌, Ok, Err, MatchOption, MatchResult, false, true, ◌∙◌, sym, ap, subst}
use Rattle.std.proofs.lemmas.Bool.{cond-false}
use Rattle.paths.specs.Names.{judge}
use Rattle.paths.specs.Paths.{names}
use Rattle.paths.specs.Steps.{map_err}
use Rattle.layer_fields.specs.declared.fault.Cause.TheVariants.{Whiteout, Path}
use Rattle.layer_fields.specs.Texts.{has_whiteout_prefix, row_path, whiteout_path, without_prefix, last_of}
use Rattle.layer_fields.proofs.Prefixes.{begins_wh, whiteout_told}
use Rattle.layer_fields.proofs.texts.row_path.Goals as goal

-- src/texts.rt:55:9
pub returns-in_default : goal.returns-in_default
returns-in_default c =
    let s = c.args.text.now in
    let plain : has_whiteout_prefix s ≡ false = sym (begins_wh (last_of s)) ∙ search rules in
    cond-false (has_whiteout_prefix s) (whiteout_path (judge (without_prefix s))) (map_err Path (judge s)) plain ∙ ap (map_err Path) (c.in_ok-parse.ensures.0)

-- src/texts.rt:51:1
pub returns : goal.returns
returns c =
    let s = c.args.text.now in
    let prefixed : has_whiteout_prefix s ≡ true = sym (begins_wh (last_of s)) ∙ search rules in
    let text : c.before_last.result.now ++ c.in-Some.name.now ≡ without_prefix s = search rules in
    subst (λ r. MatchResult r (λ p. row_path s ≡ Ok (names p)) (λ c. row_path s ≡ Err c)) (sym c.ok_or.ensures.value) (whiteout_told s c.whiteout_path.result prefixed (subst (λ t. MatchOption c.whiteout_path.result (whiteout_path (judge t) ≡ Err Whiteout) (λ p. whiteout_path (judge t) ≡ Ok (names p))) text c.whiteout_path.ensures))
