use Rattle.std.proofs.Common.{sym, ◌∙◌}
use Rattle.tier_single.proofs.HitLaws.{in-use-takes}
use Rattle.tier_single.proofs.TookLaws.{none-open}
use Rattle.tier_single.proofs.tier.Tier.hit.Goals as goal

pub returns-then-contains-clause-takes : goal.returns-then-contains-clause-takes
returns-then-contains-clause-takes g c = λ w. rw (← c.self.view_is) (in-use-takes _ c.args.moment c.args.request c.args.key.now (sym c.contains.ensures ∙ c.if-contains.true) w)

pub returns-clause-takes : goal.returns-clause-takes
returns-clause-takes g c = λ w. c.hit_alone.ensures.takes c.args.request w (none-open _ (rw (← c.self.view_is) (sym c.contains.ensures ∙ c.if-contains.false)))
