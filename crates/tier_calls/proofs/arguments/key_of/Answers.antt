use Rattle.std.proofs.Common.{refl, sym, inr}
use Rattle.tier_calls.specs.Arguments.{by_digests}
use Rattle.tier_calls.proofs.arguments.key_of.Goals as goal

pub returns-in-Err-clause-err : goal.returns-in-Err-clause-err
returns-in-Err-clause-err c = inr (
  refl,
  (
    by_digests c.in-Some.digests.primary c.in-Some.digests.variance c.args.tag.now,
    (c.in-Ok.ensures.cases.1, (c.in-Some.digests, sym c.in-Some.ensures, refl)),
  ),
)
