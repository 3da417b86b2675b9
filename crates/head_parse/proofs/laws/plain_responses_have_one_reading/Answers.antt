use Rattle.head_parse.proofs.ReadingLaws.{IsReading-one}
use Rattle.head_parse.proofs.laws.plain_responses_have_one_reading.Goals as goal

pub returns : goal.returns
returns c = IsReading-one
