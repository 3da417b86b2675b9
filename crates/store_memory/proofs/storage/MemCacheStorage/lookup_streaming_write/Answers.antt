use Rattle.std.proofs.Common.{ℕ, true, subst, sym, ◌∙◌}
use Rattle.std.specs.Prelude.{Option}
use Rattle.cache_words.specs.Key.{combined, key_of}
use Rattle.cache_changes.specs.Changes.{StoredKey}
use Rattle.cache_store.specs.Answers.{look_up}
use Rattle.cache_store.specs.Looks.{LookAnswer, TagAnswer, asked}
use Rattle.store_memory.specs.Readings.{reader_of}
use Rattle.store_memory.proofs.StoreLaws.{look-told}
use Rattle.store_memory.proofs.storage.MemCacheStorage.lookup_streaming_write.Goals as goal

pub returns-in-None-clause-stream : goal.returns-in-None-clause-stream
returns-in-None-clause-stream g c =
    subst (λ (o : Option ℕ). TagAnswer reader_of o (asked true (combined (key_of c.args.key.now)) o c.args.self.now.store) c.args.self.now c.look.result c.look.new.self) (sym c.in-None.is ∙ c.number_of.ensures)
    (subst (λ (k : StoredKey). LookAnswer reader_of (look_up k c.args.self.now.store) c.args.self.now c.look.result c.look.new.self) c.combined_bin-key.ensures
    (look-told (look_up c.combined_bin-key.result c.args.self.now.store) c.args.self.now c.look.new.self c.look.result c.look.ensures))
