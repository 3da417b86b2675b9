use Rattle.std.proofs.Common.{ℕ, List, Option, Some, None, Ok, sym, subst, ◌∙◌}
use Rattle.cache_words.specs.Key.{key_of, combined}
use Rattle.cache_store.specs.Looks.{ReaderAnswer, asked}
use Rattle.request_store.proofs.BeginLaws.{begun-plain, begun-streaming, never-none, reader-some, reader-none}
use Rattle.request_store.proofs.begins.begin.Goals as goal

pub returns-then-not-support_streaming_partial_write-clause-begun : goal.returns-then-not-support_streaming_partial_write-clause-begun
returns-then-not-support_streaming_partial_write-clause-begun g c =
    begun-plain g.S.Hit.HandleHit.reader g.S.Miss.HandleMiss.number (λ m. g.S.Contents.tagged (g.S.Miss.HandleMiss.tag m)) g.S.Storage.streams (g.S.Storage.is_spent (g.S.Contents.held c.args.store.now)) (combined (key_of c.args.key.now)) c.args.meta.now c.in-Ok.miss
    (g.S.Contents.held c.args.store.now) (g.S.Contents.held c.get_miss_handler.new.self)
    (sym c.support_streaming_partial_write.ensures ∙ c.if-not-support_streaming_partial_write.true) c.in-Ok.ensures.begun

pub returns-in-Ok-Some-clause-begun : goal.returns-in-Ok-Some-clause-begun
returns-in-Ok-Some-clause-begun g c =
    let read = subst (λ (t : Option (List ℕ)). ReaderAnswer g.S.Hit.HandleHit.reader g.S.Hit.HandleHit.weight g.S.Hit.HandleHit.id g.S.Contents.weigh (g.S.Contents.ids c.get_miss_handler.new.self (combined (key_of c.args.key.now))) (g.S.Contents.tagged t)
    (asked g.S.Storage.streams (combined (key_of c.args.key.now)) (g.S.Contents.tagged t) (g.S.Contents.held c.get_miss_handler.new.self).store)
    (g.S.Contents.held c.get_miss_handler.new.self) (Ok (Some c.in-Ok-Some.own)) (g.S.Contents.held c.lookup_streaming_reader.new.self))
    c.streaming_write_tag.ensures.tag (rw c.in-Ok-Some.field-0-is at c.in-Ok-Some.ensures.reader) in
    let found = reader-some g.S.Hit.HandleHit.reader g.S.Hit.HandleHit.weight g.S.Hit.HandleHit.id g.S.Contents.weigh (g.S.Contents.ids c.get_miss_handler.new.self (combined (key_of c.args.key.now))) (g.S.Contents.tagged (g.S.Miss.HandleMiss.tag c.in-Ok.miss))
    (asked g.S.Storage.streams (combined (key_of c.args.key.now)) (g.S.Contents.tagged (g.S.Miss.HandleMiss.tag c.in-Ok.miss)) (g.S.Contents.held c.get_miss_handler.new.self).store)
    (g.S.Contents.held c.get_miss_handler.new.self) (g.S.Contents.held c.lookup_streaming_reader.new.self) c.in-Ok-Some.own read in
    begun-streaming g.S.Hit.HandleHit.reader g.S.Miss.HandleMiss.number (λ m. g.S.Contents.tagged (g.S.Miss.HandleMiss.tag m)) g.S.Storage.streams (g.S.Storage.is_spent (g.S.Contents.held c.args.store.now)) (combined (key_of c.args.key.now)) c.args.meta.now c.in-Ok.miss
    (g.S.Contents.held c.args.store.now) (g.S.Contents.held c.get_miss_handler.new.self)
    found.0 c.in-Ok-Some.own (g.S.Contents.held c.lookup_streaming_reader.new.self) (sym c.support_streaming_partial_write.ensures ∙ c.if-not-support_streaming_partial_write.false) c.in-Ok.ensures.begun
    found.1

-- the look-up of the write that began finds something
pub unreachable-requires : goal.unreachable-requires
unreachable-requires g c =
    let read = subst (λ (t : Option (List ℕ)). ReaderAnswer g.S.Hit.HandleHit.reader g.S.Hit.HandleHit.weight g.S.Hit.HandleHit.id g.S.Contents.weigh (g.S.Contents.ids c.get_miss_handler.new.self (combined (key_of c.args.key.now))) (g.S.Contents.tagged t)
    (asked g.S.Storage.streams (combined (key_of c.args.key.now)) (g.S.Contents.tagged t) (g.S.Contents.held c.get_miss_handler.new.self).store)
    (g.S.Contents.held c.get_miss_handler.new.self) (Ok None) (g.S.Contents.held c.lookup_streaming_reader.new.self))
    c.streaming_write_tag.ensures.tag (rw c.in-Ok-None.field-0-is at c.in-Ok-None.ensures.reader) in
    never-none g.S.Hit.HandleHit.reader g.S.Miss.HandleMiss.number (λ m. g.S.Contents.tagged (g.S.Miss.HandleMiss.tag m)) g.S.Storage.streams (g.S.Storage.is_spent (g.S.Contents.held c.args.store.now)) (combined (key_of c.args.key.now)) c.args.meta.now c.in-Ok.miss
    (g.S.Contents.held c.args.store.now) (g.S.Contents.held c.get_miss_handler.new.self) (g.S.Contents.held c.lookup_streaming_reader.new.self)
    (sym c.support_streaming_partial_write.ensures ∙ c.if-not-support_streaming_partial_write.false) c.in-Ok.ensures.begun c.streaming_write_tag.ensures.named
    (reader-none g.S.Hit.HandleHit.reader g.S.Hit.HandleHit.weight g.S.Hit.HandleHit.id g.S.Contents.weigh (g.S.Contents.ids c.get_miss_handler.new.self (combined (key_of c.args.key.now))) (g.S.Contents.tagged (g.S.Miss.HandleMiss.tag c.in-Ok.miss))
    (asked g.S.Storage.streams (combined (key_of c.args.key.now)) (g.S.Contents.tagged (g.S.Miss.HandleMiss.tag c.in-Ok.miss)) (g.S.Contents.held c.get_miss_handler.new.self).store)
    (g.S.Contents.held c.get_miss_handler.new.self) (g.S.Contents.held c.lookup_streaming_reader.new.self) read)
    c.own_reader.ensures.found
