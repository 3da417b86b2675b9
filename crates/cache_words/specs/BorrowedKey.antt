-- What a borrowed key's fields say.
use Rattle.cache_words.specs.Key.{Key}
use Rattle.cache_words.specs.declared.pack.BorrowedKey.{BorrowedKey}

abbrev pub borrowed_view : BorrowedKey → Key
borrowed_view k = record { primary = k.primary; variance = k.variance; user_tag = k.user_tag.now }
