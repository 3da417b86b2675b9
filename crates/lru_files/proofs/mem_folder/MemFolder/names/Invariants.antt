use Rattle.std.specs.Prelude.{map, string_bytes}
use Rattle.std.specs.Map.Iter.{deref}
use Rattle.lru_files.proofs.Listing.{AreNames}
use Rattle.lru_files.proofs.mem_folder.MemFolder.names.Given as goal

abbrev pub invariant-loop-path : goal.invariant-loop-path
invariant-loop-path l = AreNames l.dir (map string_bytes l.names.items) (map string_bytes (map deref l.yielded))
