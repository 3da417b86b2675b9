-- Tags of writes.
use Rattle.std.specs.Prelude.{List, ℕ}
use Rattle.cache_store.specs.declared.storage.streaming_write.WriteId.{WriteId}

-- the bytes that a tag is
abbrev pub bytes_of : {N : ℕ} → WriteId N → List ℕ
bytes_of id = id.0
