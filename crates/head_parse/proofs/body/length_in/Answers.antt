use Rattle.std.proofs.Common.{◌≡◌, true, false, ap, sym, ◌∙◌}
use Rattle.std.specs.Result.{result_ok}
use Rattle.head_parse.specs.Response.{length_in}
use Rattle.head_parse.proofs.LengthLaws.{length_in-hidden, length_in-read}
use Rattle.head_parse.proofs.body.length_in.Goals as goal

pub returns-in_default : goal.returns-in_default
returns-in_default c = sym (length_in-hidden c.args.value.now.bytes (λ v. let no : false ≡ true = c.in_default.ensures.succeeds.1 v in cc))

pub returns-in-Ok-parse : goal.returns-in-Ok-parse
returns-in-Ok-parse c = ap (λ r. result_ok r) (sym c.in-Ok-parse.is) ∙ length_in-read c.in-Ok.text.now c.parse.result c.parse.ensures.value.0 ∙ ap length_in c.in-Ok.ensures.ok

pub returns-in-Err : goal.returns-in-Err
returns-in-Err c = ap (λ r. result_ok r) (sym c.in-Err.is) ∙ length_in-read c.in-Ok.text.now c.parse.result c.parse.ensures.value.0 ∙ ap length_in c.in-Ok.ensures.ok
