-- Which entry the parts of a key stand for.
use Rattle.cache_words.specs.Key.{Key}
use Rattle.cache_entries.specs.declared.entry.CacheEntryKey.{CacheEntryKey}
use Rattle.cache_entries.specs.declared.entry.CacheEntryKey.TheVariants.{KeyOnly}
use Rattle.lru_numbers.specs.declared.parts.KeyParts.{KeyParts}

-- the entry of a key alone with these parts
abbrev pub entry_with_parts : KeyParts → CacheEntryKey
entry_with_parts p = KeyOnly (record { primary = p.primary; variance = p.variance; user_tag = p.user_tag.now })

-- the key of these parts
abbrev pub key_with_parts : KeyParts → Key
key_with_parts p = record { primary = p.primary; variance = p.variance; user_tag = p.user_tag.now }
