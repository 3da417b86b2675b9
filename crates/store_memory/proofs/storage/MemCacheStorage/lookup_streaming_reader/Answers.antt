use Rattle.std.proofs.Common.{ℕ, true, subst}
use Rattle.std.specs.Prelude.{Option}
use Rattle.cache_words.specs.Key.{combined, key_of}
use Rattle.cache_changes.specs.Changes.{StoredKey}
use Rattle.cache_store.specs.Looks.{asked}
use Rattle.store_memory.proofs.OwnLaws.{Reads}
use Rattle.store_memory.proofs.storage.MemCacheStorage.lookup_streaming_reader.Goals as goal

pub returns : goal.returns
returns g c =
    record {
      reader =
          subst (λ (o : Option ℕ). Reads o (asked true (combined (key_of c.args.key.now)) o c.args.self.now.store) c.args.self.now c.read_at.result c.read_at.new.self) c.number_of.ensures
          (subst (λ (k : StoredKey). Reads c.number_of.result (asked true k c.number_of.result c.args.self.now.store) c.args.self.now c.read_at.result c.read_at.new.self) c.combined_bin.ensures c.read_at.ensures);
    }
