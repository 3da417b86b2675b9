use Rattle.std.proofs.Common.{refl}
use Rattle.rules_fields.proofs.Parts.{onto_nothing}
use Rattle.rules_fields.proofs.lines.cut.Goals as goal

pub loop-i-init : goal.loop-i-init
loop-i-init c = record { value = refl; first = onto_nothing c.args.text.now }
