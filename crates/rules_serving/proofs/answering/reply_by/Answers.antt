use Rattle.std.proofs.Common.{sym, ap, ◌∙◌}
use Rattle.std.specs.Prelude.{option_map}
use Rattle.rules_ffi_results.specs.Sending.{sent_view}
use Rattle.rules_serving.proofs.AtOnce.{then_is}
use Rattle.rules_serving.proofs.answering.reply_by.Goals as goal

pub returns-in-Some : goal.returns-in-Some
returns-in-Some c = then_is _ _ (sent_view c.in-Some.sent) (sym (ap (option_map sent_view) c.in-Some.is) ∙ c.in_ok-whole.ensures)
