use Rattle.std.proofs.Common.{◌≡◌, take}
use Rattle.std.specs.Prelude.{map, filter, string_bytes}
use Rattle.lru_files.specs.Folder.{path_in}
use Rattle.lru_files.specs.Names.{is_temp_name}
use Rattle.lru_files.proofs.load.temp_paths.Given as goal

abbrev pub invariant-loop-name : goal.invariant-loop-name
invariant-loop-name l = map string_bytes l.paths.items ≡ map (path_in l.dir) (filter (is_temp_name l.file_name) (map string_bytes (take l.name-index l.names)))
