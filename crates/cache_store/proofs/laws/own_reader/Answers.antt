use Rattle.cache_store.proofs.WholeLaws.{own-read, own-asked}
use Rattle.cache_store.proofs.laws.own_reader.Goals as goal

pub returns-clause-own : goal.returns-clause-own
returns-clause-own c = λ k meta n old new b. own-read k meta n old new b

pub returns-clause-found : goal.returns-clause-found
returns-clause-found c = λ k meta n named old new b e. own-asked k meta n named old new b e
