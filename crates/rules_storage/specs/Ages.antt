-- Ages (RFC 9111, 4.2.3). Moments are nanoseconds since 1970, and `arrival` may lie before.
use Rattle.std.specs.Prelude.{ℕ, ◌-◌, ◌*◌, ◌/◌, ◌==◌, ℤ, pos, ◌+ℤ◌, ◌-ℤ◌, int_lt, Bool, if◌then◌else◌, List, codes, unwrap_or, option_and_then}
use Rattle.std.specs.Int.{int_min, int_max}
use Rattle.rules_fields.specs.Texts.{trimmed}
use Rattle.rules_fields.specs.Numbers.{seconds}
use Rattle.rules_fields.specs.Dates.{date_of}
use Rattle.rules_fields.specs.Fields.{Field, first, cut}
use Rattle.rules_fields.specs.Types.{Chosen}

-- the nanoseconds of a second
abbrev pub second : ℕ
second = 1000000000

-- the second of Date, or of the moment at which it came
abbrev pub date_value : List Field → ℕ → ℕ
date_value lines came = unwrap_or (option_and_then date_of (first (codes "date") lines)) (came / second)

-- the seconds of the first part of the first Age
abbrev pub age_value : List Field → ℕ
age_value lines = unwrap_or (option_and_then (λ value. seconds (trimmed (cut value).0)) (first (codes "age") lines)) 0

-- how many seconds before it came the response was dated
abbrev pub apparent : List Field → ℕ → ℕ
apparent lines came = came / second - date_value lines came

-- so many seconds before it came, or so many before it was asked for
abbrev pub earlier : ℕ → ℕ → ℕ → ℕ → ℤ
earlier apparent age asked came = int_min (pos came -ℤ pos (apparent * second)) (pos asked -ℤ pos (age * second))

-- so many before it was asked for
abbrev pub by_age : ℕ → ℕ → ℤ
by_age age asked = pos asked -ℤ pos (age * second)

-- the moment at which the age was 0; where the operator doesn't trust Date, by Age alone
unfoldable pub arrival : List Field → ℕ → ℕ → Chosen → ℤ
arrival lines asked came o =
    if o.trusts_date then earlier (apparent lines came) (age_value lines) asked came else by_age (age_value lines) asked

-- the age at a moment: the time since the arrival, and at least 0
abbrev pub age : ℤ → ℕ → ℤ
age arrival now = int_max (pos 0) (pos now -ℤ arrival)

-- the age is below the lifetime
abbrev pub is_fresh : ℤ → ℕ → ℕ → Bool
is_fresh arrival lifetime now = int_lt (age arrival now) (pos (lifetime * second))

-- the last moment at which it is fresh, as a store is told it; of a lifetime 0 the moment 0
abbrev pub fresh_until : ℤ → ℕ → ℤ
fresh_until arrival lifetime = if lifetime == 0 then pos 0 else arrival +ℤ pos (lifetime * second - 1)
