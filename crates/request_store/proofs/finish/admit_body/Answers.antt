use Rattle.request_store.specs.Admissions.{rules_of}
use Rattle.request_store.proofs.FinishLaws.{taken-back-as}
use Rattle.request_store.proofs.finish.admit_body.Goals as goal

pub returns-clause-admitted : goal.returns-clause-admitted
returns-clause-admitted g c =
    rw c.told_of_admission.ensures
    (taken-back-as (rules_of g.S.Contents.held g.S.Contents.ids g.S.Storage.purged_as g.S.Storage.is_spent g.S.Miss.HandleMiss.told g.E.EvictionManager.shard_count g.E.EvictionManager.weighed g.E.EvictionManager.pick)
    c.args.kind c.args.entries.0 c.in-Err.fault _ _ c.in-Err.ensures.admitted)
