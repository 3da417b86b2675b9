use Rattle.std.proofs.Common.{ap, ◌∙◌}
use Rattle.tier_model.specs.declared.event.Done.{Done}
use Rattle.tier_requests.specs.Faults.{fault_for}
use Rattle.tier_single.proofs.tier.hit.use_fresh.Goals as goal

pub returns-in-Err : goal.returns-in-Err
returns-in-Err g c = (
  c.in-Err.ensures.err,
  c.in-Err.ensures.untracked,
  (c.in-Err.fault, c.in-Err.ensures.refused.0, c.fault_for.ensures ∙ ap (λ (d : Done). fault_for c.in-Err.fault d) c.nothing_done.ensures),
)
