-- Which entry a borrowed one's fields say.
use Rattle.std.specs.Prelude.{option_map}
use Rattle.cache_words.specs.BorrowedKey.{borrowed_view}
use Rattle.cache_entries.specs.declared.entry.CacheEntryKey.{CacheEntryKey}
use Rattle.cache_entries.specs.declared.pack.BorrowedEntry.{BorrowedEntry}
use Rattle.cache_entries.specs.Entry.{number_of, entry_with}
use Rattle.cache_entries.specs.EntryText.{kept_key}

abbrev pub borrowed_entry : BorrowedEntry → CacheEntryKey
borrowed_entry b = entry_with (kept_key (borrowed_view b.key)) (option_map number_of b.id)
