use Rattle.std.proofs.Common.{◌∙◌, ap}
use Rattle.gateway_exchanges.specs.declared.exchange.Exchange.{Exchange}
use Rattle.gateway_responses.specs.Bodies.{tails_with}
use Rattle.gateway_responses.proofs.taking.grow_tail.Goals as goal

pub returns-clause-kept : goal.returns-clause-kept
returns-clause-kept c =
    let begun = c.begin_tail.new.g in (
      begun,
      c.in_ok-begin_tail.ensures.begun,
      c.in_ok-_kept.ensures.kept ∙ ap (λ (e : Exchange). tails_with c.args.piece.now begun e begun.tails) c.begin_tail.ensures.rest,
    )
