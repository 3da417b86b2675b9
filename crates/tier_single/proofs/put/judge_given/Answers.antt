use Rattle.cache_words.specs.Time.{MomentValue}
use Rattle.tier_single.proofs.JudgeLaws.{given-fault}
use Rattle.tier_single.proofs.put.judge_given.Goals as goal

pub returns-in-Ok : goal.returns-in-Ok
returns-in-Ok c = λ (t : MomentValue). c.in-Ok.ensures

pub returns-in-Err : goal.returns-in-Err
returns-in-Err c = λ (t : MomentValue). given-fault c.args.given t c.args.header c.in-Err.fault c.in-Err.ensures
