use Rattle.head_parse.proofs.ReadingLaws.{parsed_of-read}
use Rattle.head_parse.proofs.laws.well_formed_responses_are_read.Goals as goal

pub returns : goal.returns
returns c = parsed_of-read
