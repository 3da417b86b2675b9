use Rattle.std.proofs.Common.{◌≡◌, ◌+◌, ◌≤◌, length, take, vec_capacity}
use Rattle.std.specs.Prelude.{map, string_bytes}
use Rattle.lru_files.specs.Load.{AreRemovals, Removes}
use Rattle.lru_files.specs.Told.{Tells}
use Rattle.lru_files.proofs.load.remove_all.Given as goal

abbrev pub invariant-loop-path : goal.invariant-loop-path
invariant-loop-path g l = record {
  all : l.removed + length l.failed.items ≡ l.path-index;
  room : length l.paths ≤ vec_capacity l.failed;
  removed : g.F.Folder.keeps → Removes (map string_bytes (take l.path-index l.paths)) l.removed (g.F.Folder.files l.fn.folder) (g.F.Folder.files l.folder);
  failed : AreRemovals l.failed.items;
  told : Tells g.F.Folder.did g.F.Folder.failures_of l.failed.items l.fn.folder l.folder;
}
