use Rattle.std.proofs.Common.{ap, ◌∙◌, if◌then◌else◌}
use Rattle.std.specs.Prelude.{None}
use Rattle.std.specs.Option.{option_map_or}
use Rattle.gateway_steps.specs.declared.state.State.{State}
use Rattle.gateway_exchanges.specs.Tails.{TailMap, without_user}
use Rattle.gateway_sides.specs.Tails.{tails_left, tails_passed}
use Rattle.gateway_sides.proofs.tails.leave_write.Goals as goal

pub returns-clause-left : goal.returns-clause-left
returns-clause-left c =
    c.leave_tail.ensures.left
    ∙ ap (λ (t : TailMap). tails_left c.pass_stored-passed.new.e t) c.pass_stored-passed.ensures.passed
    ∙ ap (λ (s : State). option_map_or (λ writer. without_user writer (tails_passed c.args.e.now c.args.g.now.tails)) (if s.tier.tailed then s.tier.writer else None)
    (tails_passed c.args.e.now c.args.g.now.tails)) c.pass_stored-passed.ensures.tier
