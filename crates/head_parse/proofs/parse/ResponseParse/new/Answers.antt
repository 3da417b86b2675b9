use Rattle.head_parse.proofs.PositionLaws.{nothing-has-none}
use Rattle.head_parse.proofs.parse.ResponseParse.new.Goals as goal

pub returns : goal.returns
returns c = (c.new.ensures, nothing-has-none)
