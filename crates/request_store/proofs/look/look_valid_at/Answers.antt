use Rattle.std.proofs.Common.{refl, sym, ◌∙◌}
use Rattle.cache_words.specs.Key.{key_of, combined}
use Rattle.cache_store.specs.Looks.{shows}
use Rattle.request_store.proofs.LookLaws.{absent-at}
use Rattle.request_store.proofs.look.look_valid_at.Goals as goal

pub returns-in-Ok-None-clause-look : goal.returns-in-Ok-None-clause-look
returns-in-Ok-None-clause-look g c =
    let k = combined (key_of c.args.key.now) in
    absent-at g.S.Hit.HandleHit.reader g.S.Hit.HandleHit.weight g.S.Hit.HandleHit.id g.S.Contents.weigh (g.S.Contents.ids c.args.store.now k) c.args.moment c.args.since
    (g.S.Contents.held c.args.store.now) (g.S.Contents.held c.lookup_at.new.self) (shows g.S.Storage.streams k (g.S.Contents.held c.args.store.now).store)
    (rw c.in-Ok-None.field-0-is at c.in-Ok-None.ensures.look)
