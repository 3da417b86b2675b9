use Rattle.tier_promise.proofs.Founds.{one-writer, one-writer-stale}
use Rattle.tier_promise.proofs.laws.one_writer_a_key.Goals as goal

pub returns-clause-absent : goal.returns-clause-absent
returns-clause-absent c = λ s used loaded h call id q right is at o. one-writer s used loaded h call id q right is at o

pub returns-clause-stale : goal.returns-clause-stale
returns-clause-stale c = λ s used loaded h call id q fresh complete right is at o. one-writer-stale s used loaded h call id q right is at fresh complete o
