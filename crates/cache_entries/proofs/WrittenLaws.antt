-- What a writer writes of an entry and of rows is a spelling of them.
use Rattle.std.proofs.Common.{◌<◌, ◌^◌, List, [], ◌∷◌, ◌++◌, length, flat_map, refl, inl, inr, lit<}
use Rattle.std.specs.List.{AllByRecursion}
use Rattle.cache_words.specs.Forms.{shortest, numbers, arrays}
use Rattle.cache_words.specs.CompactKey.{compact_view}
use Rattle.cache_words.specs.Pack.{key_text_of}
use Rattle.cache_words.specs.Items.{SpellList}
use Rattle.cache_words.proofs.WritingLaws.{number_spelled, array_spelled, key_spelled}
use Rattle.cache_entries.specs.declared.entry.CacheEntryKey.{CacheEntryKey}
use Rattle.cache_entries.specs.declared.entry.CacheEntryKey.TheVariants.{KeyOnly, Identified}
use Rattle.cache_entries.specs.declared.rows.Tracked.{Tracked}
use Rattle.cache_entries.specs.Entry.{number_of}
use Rattle.cache_entries.specs.EntryText.{entry_text, SpellsEntry}
use Rattle.cache_entries.specs.RowText.{row_text, recency_text, SpellsRow, SpellsRecency}
use Rattle.cache_entries.specs.Writable.{IsEntry, IsRow}

pub entry_spelled : (e : CacheEntryKey) → IsEntry e → SpellsEntry e (entry_text e)
entry_spelled (KeyOnly key) h = inl (refl, key_spelled (compact_view key) h.primary h.variance h.short h.tag)
entry_spelled (Identified key id) h =
    inr (
      shortest arrays 2,
      key_text_of (compact_view key) ++ shortest numbers (number_of id),
      array_spelled 2 (lit< tt),
      (
        key_text_of (compact_view key),
        shortest numbers (number_of id),
        key_spelled (compact_view key) h.primary h.variance h.short h.tag,
        number_spelled (number_of id) h.id,
        refl,
      ),
      refl,
    )

pub row_spelled : (r : Tracked) → IsRow r → SpellsRow r (row_text r)
row_spelled r h = (
  shortest arrays 2,
  entry_text r.entry ++ shortest numbers r.weight,
  array_spelled 2 (lit< tt),
  (entry_text r.entry, shortest numbers r.weight, entry_spelled r.entry h.entry, number_spelled r.weight h.weight, refl),
  refl,
)

rows_spelled : (rows : List Tracked) → AllByRecursion IsRow rows → SpellList SpellsRow rows (flat_map row_text rows)
rows_spelled [] h = refl
rows_spelled (r ∷ rows) h = (row_text r, flat_map row_text rows, row_spelled r h.0, rows_spelled rows h.1, refl)

pub recency_spelled : (rows : List Tracked) → length rows < 2 ^ 32 → AllByRecursion IsRow rows → SpellsRecency rows (recency_text rows)
recency_spelled rows few h = (shortest arrays (length rows), flat_map row_text rows, array_spelled (length rows) few, rows_spelled rows h, refl)
