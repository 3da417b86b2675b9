use Rattle.tier_single.proofs.JudgeLaws.{judged-head}
use Rattle.tier_single.proofs.put.judge.Goals as goal

pub returns-in-Ok : goal.returns-in-Ok
returns-in-Ok c = judged-head c.args.given c.args.moment c.args.head.now c.in-Ok.header c.judge_with.result c.in-Ok.ensures c.judge_with.ensures
