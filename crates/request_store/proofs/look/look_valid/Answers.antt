use Rattle.std.proofs.Common.{sym, ◌∙◌}
use Rattle.cache_words.specs.Key.{key_of, combined}
use Rattle.cache_store.specs.Looks.{shows}
use Rattle.request_store.proofs.LookLaws.{hidden-found}
use Rattle.request_store.proofs.look.look_valid.Goals as goal

pub returns-then-is_hidden-clause-look : goal.returns-then-is_hidden-clause-look
returns-then-is_hidden-clause-look g c =
    hidden-found g.S.Hit.HandleHit.reader c.args.since c.in-Ok-Some.meta c.in-Ok-Some.hit (g.S.Contents.held c.args.store.now) (g.S.Contents.held c.lookup.new.self)
    (shows g.S.Storage.streams (combined (key_of c.args.key.now)) (g.S.Contents.held c.args.store.now).store) (g.S.Contents.held c.finish.new.store)
    (rw c.in-Ok-Some.field-0-is at c.in-Ok-Some.ensures.look) (sym c.is_hidden.ensures ∙ c.if-is_hidden.true) c.finish.ensures.parts c.joined_then_parted.ensures
