use Rattle.cache_changes.proofs.MayLaws.{flies-is, append-is, finish-is, renew-is}
use Rattle.cache_changes.proofs.laws.the_state_tells_what_may_come.Goals as goal

pub returns-clause-flies : goal.returns-clause-flies
returns-clause-flies g c = λ changes o n. flies-is changes o n

pub returns-clause-appends : goal.returns-clause-appends
returns-clause-appends g c = λ changes o n bytes. append-is changes o n bytes

pub returns-clause-finishes : goal.returns-clause-finishes
returns-clause-finishes g c = λ changes o w. finish-is changes o w

pub returns-clause-renews : goal.returns-clause-renews
returns-clause-renews g c = λ changes o n meta. renew-is changes o n meta
