-- What is hashed of an entry that is a key of a table.
use Rattle.std.specs.Prelude.{ℕ, List, [], ◌∷◌, ◌++◌, take, drop, Option, Some, None}
use Rattle.std.specs.Hash as fed
use Rattle.cache_entries.specs.declared.entry.CacheEntryKey.{CacheEntryKey}
use Rattle.cache_entries.specs.Entry.{key_of, id_of}
use Rattle.seeded_hashing.specs.Pieces.{pieces}

-- sixteen bytes in two writes
abbrev pub halves : List ℕ → fed.HashWrites
halves bytes = take 8 bytes ∷ drop 8 bytes ∷ []

-- the same of bytes that may be there
abbrev pub halves_if_any : Option (List ℕ) → fed.HashWrites
halves_if_any None = []
halves_if_any (Some bytes) = halves bytes

abbrev pub id_writes : Option ℕ → fed.HashWrites
id_writes None = []
id_writes (Some id) = fed.u64 id

-- what is written of each part that is there, eight bytes at most in a write
abbrev pub table_writes : CacheEntryKey → fed.HashWrites
table_writes e = halves (key_of e).primary ++ (halves_if_any (key_of e).variance ++ (pieces (key_of e).user_tag ++ id_writes (id_of e)))
