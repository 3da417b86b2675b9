use Rattle.tier_single.proofs.put.judge_with.Goals as goal

pub returns-in-Some : goal.returns-in-Some
returns-in-Some c = rw c.in-Some.is (c.judge_given.ensures c.args.moment)
