-- What is reported of a request once it has ended.
use Rattle.std.specs.Prelude.{Option, Some, None, unwrap_or}
use Rattle.cache_words.specs.Time.{DurationValue, sum_of, greatest}
use Rattle.request_phases.specs.declared.digest.HttpCacheDigest.{HttpCacheDigest}

-- a further time added to those before; a sum past the greatest time is the greatest
abbrev pub added : Option DurationValue → DurationValue → Option DurationValue
added None further = Some further
added (Some before) further = Some (unwrap_or (sum_of before further) greatest)

-- of a request of which nothing is known
abbrev pub empty_digest : HttpCacheDigest
empty_digest = record { lock_duration = None; lookup_duration = None; admission = None; lock_abandon = None }
