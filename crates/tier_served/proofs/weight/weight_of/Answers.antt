use Rattle.std.proofs.Common.{◌∙◌, ℕ, None, Some, ap}
use Rattle.tier_model.specs.Response.{judged}
use Rattle.tier_served.proofs.Weights.{can-write, weighed}
use Rattle.tier_served.proofs.weight.weight_of.Goals as goal

pub weight_for-requires : goal.weight_for-requires
weight_for-requires c = can-write c.args.moment c.args.whole.header _ c.in-Some.meta c.in_ok-meta.ensures c.in-Some.is

pub returns-in-Some : goal.returns-in-Some
returns-in-Some c =
    ap (λ (n : ℕ). Some n) c.in_ok-weight_for-in-Some.ensures
    ∙ weighed c.args.whole.body (judged c.args.moment c.args.whole.header) _ (Some c.in-Some.meta) c.in_ok-meta.ensures c.in-Some.is

pub returns : goal.returns
returns c = weighed c.args.whole.body (judged c.args.moment c.args.whole.header) _ None c.in_ok-meta.ensures c.in-None.is
