-- What a kept key's fields say.
use Rattle.cache_words.specs.Key.{Key}
use Rattle.cache_words.specs.declared.key.CompactCacheKey.{CompactCacheKey}

abbrev pub compact_view : CompactCacheKey → Key
compact_view c = record { primary = c.primary; variance = c.variance; user_tag = c.user_tag }
