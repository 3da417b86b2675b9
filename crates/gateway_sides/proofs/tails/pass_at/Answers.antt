use Rattle.std.proofs.Common.{ap, ◌∙◌, ◌&&◌, ◌==◌, if◌then◌else◌}
use Rattle.gateway_steps.specs.Steps.{ends_tailed_write}
use Rattle.gateway_steps.specs.declared.state.State.{State}
use Rattle.gateway_exchanges.specs.Tails.{is_last_reader, passed, tail_at, with_change}
use Rattle.gateway_exchanges.specs.declared.exchange.Exchange.{Exchange}
use Rattle.gateway_state.specs.declared.state.Gateway.{Gateway}
use Rattle.gateway_sides.proofs.Passing.{passed_frame}
use Rattle.gateway_sides.proofs.tails.pass_at.Goals as goal

pub returns-clause-state : goal.returns-clause-state
returns-clause-state c =
    c.end_if_last-ended.ensures.state
    ∙ ap (λ (g : Gateway). if is_last_reader (tail_at c.args.writer g.tails) && (c.args.writer == c.release_passed-released.new.e.x)
    then ends_tailed_write c.release_passed-released.new.e.steps.state
    else c.release_passed-released.new.e.steps.state) c.release_passed-released.ensures.gateway
    ∙ ap (λ (e : Exchange). if is_last_reader (tail_at c.args.writer c.args.g.now.tails) && (c.args.writer == e.x)
    then ends_tailed_write c.release_passed-released.new.e.steps.state
    else c.release_passed-released.new.e.steps.state) c.release_passed-released.ensures.rest
    ∙ ap (λ (s : State). if is_last_reader (tail_at c.args.writer c.args.g.now.tails) && (c.args.writer == c.args.e.now.x) then ends_tailed_write s else s) c.release_passed-released.ensures.state

pub returns-clause-tier : goal.returns-clause-tier
returns-clause-tier c =
    passed_frame (is_last_reader (tail_at c.args.writer c.args.g.now.tails) && (c.args.writer == c.args.e.now.x)) c.args.e.now.steps.state c.end_if_last-ended.new.e.steps.state (returns-clause-state c)

pub returns-clause-client : goal.returns-clause-client
returns-clause-client c = ap (λ (s : State). s.client) (returns-clause-tier c)

pub returns-clause-origin : goal.returns-clause-origin
returns-clause-origin c = ap (λ (s : State). s.origin) (returns-clause-tier c)

pub returns-clause-passed : goal.returns-clause-passed
returns-clause-passed c =
    c.end_if_last-ended.ensures.passed ∙ ap (λ (g : Gateway). with_change c.args.writer passed g.tails) c.release_passed-released.ensures.gateway
