use Rattle.std.proofs.Common.{◌≡◌, ◌+◌, ◌≤◌, length, vec_capacity}
use Rattle.lru_files.specs.Save.{AreNumbered, file_errors}
use Rattle.lru_files.specs.Told.{Tells}
use Rattle.lru_files.proofs.Saves.{IsSavedTo}
use Rattle.lru_files.proofs.save.save_shards.Given as goal

abbrev pub invariant-loop-shard : goal.invariant-loop-shard
invariant-loop-shard g l = record {
  counted : l.saved + length l.failed.items ≡ l.shard;
  room : l.fn.shards ≤ vec_capacity l.failed;
  numbered : AreNumbered 0 l.shard l.failed.items;
  told : Tells g.F.Folder.did g.F.Folder.failures_of (file_errors l.failed.items) l.fn.folder l.folder;
  so_far : g.F.Folder.keeps → IsSavedTo g.F.Folder.did g.F.Folder.opened g.F.Folder.files l.fn.dir l.fn.file_name l.fn.words
      (λ shard r. goal.S-post g l.serialize shard r) l.fn.shards l.fn.folder l.folder l.failed.items l.shard;
}
