use Rattle.std.proofs.Common.{take}
use Rattle.request_store.specs.Stored.{Purged}
use Rattle.request_store.proofs.purges.purge_all.Given as goal

abbrev pub invariant-loop-entry : goal.invariant-loop-entry
invariant-loop-entry g l = Purged g.S.Contents.held g.S.Contents.ids g.S.Storage.purged_as (take l.entry-index l.evicted) l.initial.store l.store
