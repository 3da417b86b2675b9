use Rattle.cache_store.proofs.LeftLaws.{bytes-came}
use Rattle.store_memory.proofs.BeginningLaws.{read-step, read-later}
use Rattle.store_memory.proofs.laws.a_reader_reads_a_beginning.Goals as goal

pub returns-clause-step : goal.returns-clause-step
returns-clause-step c = λ h read bytes over r a e. read-step h read bytes over r a e

pub returns-clause-later : goal.returns-clause-later
returns-clause-later c = λ n place read since before a. read-later n place read since before a

pub returns-clause-came : goal.returns-clause-came
returns-clause-came c = λ n s changes f o a e. bytes-came n s changes f o a e
