use Rattle.std.proofs.Common.{List, ℕ, subst}
use Rattle.head_parse.specs.Response.{Gives}
use Rattle.tier_served.proofs.Weights.{stored-is}
use Rattle.tier_served.proofs.weight.stored_weight.Goals as goal

pub returns-in-Complete : goal.returns-in-Complete
returns-in-Complete c =
    let given = subst (λ (b : List ℕ). Gives b c.in_ok-whole.field-0) c.in_ok-clone.ensures.cases c.in_ok-whole.ensures in
    stored-is c.args.response.now c.args.moment c.in_ok-whole.field-0 c.in-Complete.whole c.weight_of.result given c.in-Complete.is c.weight_of.ensures
