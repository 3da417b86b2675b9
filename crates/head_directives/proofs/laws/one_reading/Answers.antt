use Rattle.std.proofs.Common.{subst}
use Rattle.head_directives.specs.Reads.{HoldsDirectives}
use Rattle.head_directives.proofs.OneReading.{holds_unique}
use Rattle.head_directives.proofs.SomeReading.{directives_hold}
use Rattle.head_directives.proofs.laws.one_reading.Goals as goal

pub returns : goal.returns
returns c = λ line ds. (holds_unique line ds, λ e. subst (HoldsDirectives line) e (directives_hold line))
