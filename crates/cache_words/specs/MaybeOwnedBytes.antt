-- Bytes, borrowed or owned.
use Rattle.std.specs.Prelude.{ℕ, List}
use Rattle.cache_words.specs.declared.maybe_owned_bytes.Part.{Part}
use Rattle.cache_words.specs.declared.maybe_owned_bytes.Part.TheVariants.{Borrowed, Owned}

abbrev pub part_bytes : Part → List ℕ
part_bytes (Borrowed bytes) = bytes.now
part_bytes (Owned bytes) = bytes.items
