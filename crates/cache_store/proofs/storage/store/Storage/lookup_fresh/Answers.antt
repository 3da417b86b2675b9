use Rattle.cache_words.specs.Key.{combined, key_of}
use Rattle.cache_store.specs.Looks.{shows}
use Rattle.cache_store.proofs.FreshLaws.{stale}
use Rattle.cache_store.proofs.storage.store.Storage.lookup_fresh.Goals as goal

pub returns-in-Stale-clause-look : goal.returns-in-Stale-clause-look
returns-in-Stale-clause-look g c =
    let k = combined (key_of c.args.key.now) in
    stale g.Self.Hit.HandleHit.reader g.Self.Hit.HandleHit.weight g.Self.Hit.HandleHit.id g.Self.Contents.weigh (g.Self.Contents.ids c.args.self.now k) c.args.moment
    (g.Self.Contents.held c.args.self.now) c.in-Stale._meta c.in-Stale.hit c.in-Ok-Some.found c.in-Stale.is (shows g.Self.Storage.streams k (g.Self.Contents.held c.args.self.now).store)
    (g.Self.Contents.held c.lookup_at.new.self) (g.Self.Contents.held c.finish.new.store) (rw c.in-Ok-Some.field-0-is at c.in-Ok-Some.ensures.look) c.finish.ensures.parts
