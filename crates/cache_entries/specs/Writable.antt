-- Which entries and rows of a program have a text.
use Rattle.std.specs.Prelude.{◌<◌, ◌^◌, IfSome, IsUtf8}
use Rattle.cache_words.specs.Pack.{IsHash}
use Rattle.cache_entries.specs.declared.entry.CacheEntryKey.{CacheEntryKey}
use Rattle.cache_entries.specs.declared.rows.Tracked.{Tracked}
use Rattle.cache_entries.specs.Entry.{key_of, id_of}
use Rattle.cache_entries.specs.EntryText.{HasText}

-- what holds of each entry in memory, but for one whose tag is too long
pub record IsEntry (e : CacheEntryKey) : Type 0 where
  pub primary : IsHash (key_of e).primary
  pub variance : IfSome (key_of e).variance IsHash
  pub tag : IsUtf8 (key_of e).user_tag
  pub short : HasText e
  pub id : IfSome (id_of e) (λ n. n < 2 ^ 64)

pub record IsRow (r : Tracked) : Type 0 where
  pub entry : IsEntry r.entry
  pub weight : r.weight < 2 ^ 64
