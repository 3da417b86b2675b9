-- What stands for a look-up that takes all as stale.
use Rattle.std.specs.Prelude.{◌-◌, ◌^◌, pos}
use Rattle.cache_words.specs.Time.{MomentValue, second}

-- the last moment that there is: nothing is fresh then but what is fresh for ever
abbrev pub last_moment : MomentValue
last_moment = record { seconds = pos (2 ^ 63 - 1); nanoseconds = second - 1 }
