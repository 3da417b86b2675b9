use Rattle.tier_single.proofs.GivenLaws.{given-refused}
use Rattle.tier_single.proofs.given.whole_given.Goals as goal

pub returns-in-Err : goal.returns-in-Err
returns-in-Err c = given-refused c.args.given _ c.in-Head.response c.in-Err.fault (rw (c.in-Ok.ensures, c.in-Head.is) at c.in-Ok-split_response.ensures) c.in-Err.ensures
