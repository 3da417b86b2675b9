use Rattle.std.proofs.Common.{subst}
use Rattle.std.specs.Prelude.{None}
use Rattle.cache_changes.specs.Changes.{StoredKey}
use Rattle.cache_store.specs.Answers.{look_up}
use Rattle.cache_store.specs.Looks.{HasHeadAt, LookAtAnswer}
use Rattle.store_memory.specs.Kept.{weigh}
use Rattle.store_memory.specs.Readings.{head_of, reader_of, weight_of}
use Rattle.store_memory.proofs.StoreLaws.{look-told, look-tells, look-heads-at}
use Rattle.store_memory.proofs.storage.MemCacheStorage.lookup_at.Goals as goal

pub returns : goal.returns
returns g c =
    let f = c.look_fresh.ensures in
    record {
      look =
          subst (λ (k : StoredKey). LookAtAnswer reader_of weight_of (λ _. None) weigh None c.args.moment (look_up k c.args.self.now.store) c.args.self.now c.look_fresh.result c.look_fresh.new.self) c.combined_bin.ensures
          (f.0, look-told (look_up c.combined_bin.result c.args.self.now.store) c.args.self.now c.look_fresh.new.self f.0 f.1, look-tells (look_up c.combined_bin.result c.args.self.now.store) c.args.self.now c.look_fresh.new.self f.0 f.1, f.2);
      head =
          subst (λ (k : StoredKey). HasHeadAt head_of (look_up k c.args.self.now.store) c.look_fresh.result) c.combined_bin.ensures
          (look-heads-at c.args.moment (look_up c.combined_bin.result c.args.self.now.store) c.args.self.now c.look_fresh.new.self f.0 c.look_fresh.result f.1 f.2);
    }
