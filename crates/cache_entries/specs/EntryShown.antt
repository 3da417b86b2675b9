-- Entries as text for people.
use Rattle.std.specs.Prelude.{ℕ, List, ◌++◌, false, codes}
use Rattle.std.specs.Fmt.{digits}
use Rattle.cache_words.specs.Key.{shown}
use Rattle.cache_words.specs.CompactKey.{compact_view}
use Rattle.cache_entries.specs.Entry.{number_of}
use Rattle.cache_entries.specs.declared.entry.CacheEntryKey.{CacheEntryKey}
use Rattle.cache_entries.specs.declared.entry.CacheEntryKey.TheVariants.{KeyOnly, Identified}

-- an entry for people to read: its key, and then the id in lower-case hex
abbrev pub shown_entry : CacheEntryKey → List ℕ
shown_entry (KeyOnly key) = shown (compact_view key)
shown_entry (Identified key id) = shown (compact_view key) ++ (codes ", entry ID: " ++ digits 16 false (number_of id))
