use Rattle.std.proofs.Common.{◌≡◌, ◌+◌, ◌≤◌, length, vec_capacity}
use Rattle.lru_files.specs.Folder.{IsSame}
use Rattle.lru_files.specs.Load.{Loads, load_errors}
use Rattle.lru_files.specs.Names.{shard_path}
use Rattle.lru_files.specs.Told.{Tells}
use Rattle.lru_files.proofs.load.load_shards.Given as goal

abbrev pub invariant-loop-shard : goal.invariant-loop-shard
invariant-loop-shard g l = record {
  counted : l.loaded + l.missing + length l.errored.items ≡ l.shard;
  room : l.fn.shards ≤ vec_capacity l.errored;
  loads : Loads g.F.Folder.keeps (λ shard. g.F.Folder.files l.fn.folder (shard_path l.fn.dir l.fn.file_name shard)) (λ before shard bytes r after. (given : _) × (given.items ≡ bytes) × goal.D-step g before shard given r after)
      l.shard l.loaded l.missing l.errored.items l.fn.deserialize l.deserialize;
  files : g.F.Folder.keeps → IsSame (g.F.Folder.files l.initial.folder) (g.F.Folder.files l.folder);
  told : Tells g.F.Folder.did g.F.Folder.failures_of (load_errors l.errored.items) l.initial.folder l.folder;
}
