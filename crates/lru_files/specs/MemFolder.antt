-- The files of a folder in memory.
use Rattle.std.specs.Prelude.{ℕ, List, Option, string_bytes}
use Rattle.std.specs.Option.{option_map}
use Rattle.std.specs.HashMap.{get_by_text}
use Rattle.lru_files.specs.Folder.{Files}
use Rattle.lru_files.specs.declared.mem_folder.MemFolder.{MemFolder}

-- the bytes under each path
abbrev pub files_of : MemFolder → Files
files_of folder path = option_map (λ bytes. bytes.items) (get_by_text folder.files path)

-- the path of the open file
abbrev pub opened_of : MemFolder → Option (List ℕ)
opened_of folder = option_map string_bytes folder.opened
