use Rattle.cache_store.proofs.LeftLaws.{left-read, landed-read}
use Rattle.cache_store.proofs.laws.readers_are_left_with_the_bytes.Goals as goal

pub returns-clause-left : goal.returns-clause-left
returns-clause-left c = λ n h f r changes o a e t. left-read n h f r changes o a e t

pub returns-clause-landed : goal.returns-clause-landed
returns-clause-landed c = λ n x old new f r changes o a e t b. landed-read n x old new f r e t b changes o a
