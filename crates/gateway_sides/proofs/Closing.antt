-- An answer behind which the connection ends.
use Rattle.std.proofs.Common.{◌≡◌, Bool, true, false, refl, ◌||◌, ◌==◌, if◌then◌else◌}
use Rattle.gateway_rules.specs.Messages.{MessageValue}
use Rattle.gateway_steps.specs.Steps.{answers, closes_behind}
use Rattle.gateway_steps.specs.declared.state.Source.{Source}
use Rattle.gateway_steps.specs.declared.state.State.{State}
use Rattle.gateway_sides.specs.Answers.{closed_by}

by_whether : (source : Source) (s : State) (b : Bool) → answers source (if b then closes_behind s else s) ≡ (if b then closes_behind (answers source s) else answers source s)
by_whether source s true = refl
by_whether source s false = refl

pub closed_answers : (m : MessageValue) (source : Source) (s : State) → answers source (closed_by m s) ≡ closed_by m (answers source s)
closed_answers m source s = by_whether source s (m.closes || m.framing == 3)
