use Rattle.cache_store.proofs.LeftLaws.{end-came, left-whole, landed-whole}
use Rattle.cache_store.proofs.laws.readers_are_told_whether_all_came.Goals as goal

pub returns-clause-flying : goal.returns-clause-flying
returns-clause-flying c = λ n h f changes o a e. end-came n h f changes o a e

pub returns-clause-left : goal.returns-clause-left
returns-clause-left c = λ n h f r changes o a e t. left-whole n h f r changes o a e t

pub returns-clause-landed : goal.returns-clause-landed
returns-clause-landed c = λ n x old new f r e t b. landed-whole n x old new f r e t b
