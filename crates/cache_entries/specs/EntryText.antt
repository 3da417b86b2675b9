-- Entries as MessagePack: what is written, which texts spell an entry, how one is read, and an entry's hash.
use Rattle.std.specs.Prelude.{◌≡◌, ℕ, ◌^◌, ◌<◌, ◌==◌, nat_lt, if◌then◌else◌, List, [], ◌++◌, length, take, ◌⊎◌, None, Ok}
use Rattle.std.specs.Int.{w64, from_be_bytes}
use Rattle.cache_words.specs.declared.key.CompactCacheKey.{CompactCacheKey}
use Rattle.cache_words.specs.Blake.{blake2b_128}
use Rattle.cache_words.specs.CompactKey.{compact_view}
use Rattle.cache_words.specs.Key.{Key}
use Rattle.cache_words.specs.Forms.{Stands, shortest, numbers, arrays}
use Rattle.cache_words.specs.Pack.{SpellsKey, SpellOptional, key_text_of}
use Rattle.cache_words.specs.Items.{Spelling, SpellBoth, SpellItems, Reader, optional_at}
use Rattle.cache_words.specs.Reading.{◌>>=◌, number_at, key_at}
use Rattle.cache_entries.specs.declared.entry.CacheEntryKey.{CacheEntryKey}
use Rattle.cache_entries.specs.declared.entry.CacheEntryKey.TheVariants.{KeyOnly, Identified}
use Rattle.cache_entries.specs.Entry.{number_of, entry_with, key_of, id_of}

-- the kept key with these parts
abbrev pub kept_key : Key → CompactCacheKey
kept_key k = record { primary = k.primary; variance = k.variance; user_tag = k.user_tag }

-- what is written: a key alone, or an array of a key and an id
abbrev pub entry_text : CacheEntryKey → List ℕ
entry_text (KeyOnly key) = key_text_of (compact_view key)
entry_text (Identified key id) = shortest arrays 2 ++ (key_text_of (compact_view key) ++ shortest numbers (number_of id))

-- a key alone, which has no id
abbrev pub SpellsAlone : Spelling CacheEntryKey
SpellsAlone e text = (id_of e ≡ None) × SpellsKey (compact_view (key_of e)) text

-- an array of a key, and an id or no value
abbrev pub SpellsPair : Spelling CacheEntryKey
SpellsPair e text = SpellItems 2 (SpellBoth SpellsKey (SpellOptional (Stands numbers))) (compact_view (key_of e), id_of e) text

abbrev pub SpellsEntry : Spelling CacheEntryKey
SpellsEntry e text = SpellsAlone e text ⊎ SpellsPair e text

-- a key, and an id or no value
unfoldable pub pair_at : Reader CacheEntryKey
pair_at bytes = do
  key ← key_at bytes
  id ← optional_at (number_at numbers) key.1
  Ok (entry_with (kept_key key.0) id.0, id.1)

unfoldable pub alone_at : Reader CacheEntryKey
alone_at bytes = do
  key ← key_at bytes
  Ok (entry_with (kept_key key.0) None, key.1)

-- an entry: the length of the array says which of both it is
unfoldable pub entry_at : Reader CacheEntryKey
entry_at bytes = do
  count ← number_at arrays bytes
  if count.0 == 2 then pair_at count.1 else alone_at bytes

-- the entry has a text: no form counts the bytes of a longer tag
abbrev pub HasText : CacheEntryKey → Type 0
HasText e = length (key_of e).user_tag < 2 ^ 32

-- what an entry's hash is taken of: its text, or nothing where it has none
abbrev pub hashed_text : CacheEntryKey → List ℕ
hashed_text e = if nat_lt (length (key_of e).user_tag) (2 ^ 32) then entry_text e else []

-- the first eight bytes of the digest as a number, high byte first
unfoldable pub entry_hash : CacheEntryKey → ℕ
entry_hash e = from_be_bytes w64 (take 8 (blake2b_128 (hashed_text e)))
