-- The names of a shard's files.
use Rattle.std.specs.Prelude.{ℕ, ◌/◌, ◌%◌, ◌^◌, ◌&&◌, Bool, false, nat_eq, List, ◌++◌, codes, decimal}
use Rattle.std.specs.List.{starts_with, ends_with}
use Rattle.std.specs.Fmt.{digits}
use Rattle.lru_files.specs.Folder.{path_in}

-- the one hex digit, in lower case, of the value at this power of 16
abbrev pub hex_digit : ℕ → ℕ → List ℕ
hex_digit word power = digits 16 false (word / 16 ^ power % 16)

-- eight hex digits, in lower case
abbrev pub hex_word : ℕ → List ℕ
hex_word word =
    hex_digit word 7 ++ (hex_digit word 6 ++ (hex_digit word 5 ++ (hex_digit word 4 ++
    (hex_digit word 3 ++ (hex_digit word 2 ++ (hex_digit word 1 ++ hex_digit word 0))))))

-- the name of a shard's file
abbrev pub shard_name : List ℕ → ℕ → List ℕ
shard_name file_name shard = file_name ++ (codes "." ++ decimal shard)

-- the name under which a shard is written before it is renamed
abbrev pub temp_name : List ℕ → ℕ → ℕ → List ℕ
temp_name file_name shard word = file_name ++ (codes "." ++ (decimal shard ++ (codes "." ++ (hex_word word ++ codes ".tmp"))))

-- the path of a shard's file
abbrev pub shard_path : List ℕ → List ℕ → ℕ → List ℕ
shard_path dir file_name shard = path_in dir (shard_name file_name shard)

-- the path under which a shard is written before it is renamed
abbrev pub temp_path : List ℕ → List ℕ → ℕ → ℕ → List ℕ
temp_path dir file_name shard word = path_in dir (temp_name file_name shard word)

-- the name begins with `file_name` and ends in `.tmp`
abbrev pub is_temp_name : List ℕ → List ℕ → Bool
is_temp_name file_name name = starts_with nat_eq name file_name && ends_with nat_eq name (codes ".tmp")
