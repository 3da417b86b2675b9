use Rattle.std.proofs.Common.{subst}
use Rattle.cache_changes.specs.Changes.{StoredKey}
use Rattle.cache_store.specs.Answers.{look_up}
use Rattle.std.specs.Prelude.{None}
use Rattle.cache_store.specs.Looks.{HasHeadOf, LookAnswer, Tells}
use Rattle.store_memory.specs.Kept.{weigh}
use Rattle.store_memory.specs.Readings.{head_of, reader_of, weight_of}
use Rattle.store_memory.proofs.StoreLaws.{look-told, look-tells, look-heads}
use Rattle.store_memory.proofs.storage.MemCacheStorage.lookup.Goals as goal

pub returns-clause-look : goal.returns-clause-look
returns-clause-look g c =
    subst (λ (k : StoredKey). LookAnswer reader_of (look_up k c.args.self.now.store) c.args.self.now c.look.result c.look.new.self) c.combined_bin.ensures
    (look-told (look_up c.combined_bin.result c.args.self.now.store) c.args.self.now c.look.new.self c.look.result c.look.ensures)

pub returns-clause-tells : goal.returns-clause-tells
returns-clause-tells g c =
    subst (λ (k : StoredKey). Tells weight_of (λ _. None) weigh None (look_up k c.args.self.now.store) c.look.result) c.combined_bin.ensures
    (look-tells (look_up c.combined_bin.result c.args.self.now.store) c.args.self.now c.look.new.self c.look.result c.look.ensures)

pub returns-clause-head : goal.returns-clause-head
returns-clause-head g c =
    subst (λ (k : StoredKey). HasHeadOf head_of (look_up k c.args.self.now.store) c.look.result) c.combined_bin.ensures
    (look-heads (look_up c.combined_bin.result c.args.self.now.store) c.args.self.now c.look.new.self c.look.result c.look.ensures)
