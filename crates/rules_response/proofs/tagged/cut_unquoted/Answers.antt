use Rattle.std.proofs.Common.{refl, false}
use Rattle.rules_response.proofs.Unquoted.{onto_nothing}
use Rattle.rules_response.proofs.tagged.cut_unquoted.Goals as goal

pub loop-i-init : goal.loop-i-init
loop-i-init c = record { value = refl; first = onto_nothing false c.args.text.now }
