-- RFC 9111, 4.2.3, in its own terms and order, in nanoseconds.
use Rattle.std.specs.Prelude.{ℕ, ◌*◌, ◌/◌, ℤ, pos, ◌+ℤ◌, ◌-ℤ◌, ◌*ℤ◌, if◌then◌else◌, List}
use Rattle.std.specs.Int.{int_max}
use Rattle.rules_fields.specs.Fields.{Field}
use Rattle.rules_fields.specs.Types.{Chosen}
use Rattle.rules_storage.specs.Ages.{date_value, age_value, second}

-- apparent_age = max(0, response_time - date_value), of whole seconds
abbrev pub apparent_age : List Field → ℕ → ℤ
apparent_age lines response_time = int_max (pos 0) ((pos (response_time / second) -ℤ pos (date_value lines response_time)) *ℤ pos second)

-- response_delay = response_time - request_time
abbrev pub response_delay : ℕ → ℕ → ℤ
response_delay request_time response_time = pos response_time -ℤ pos request_time

-- corrected_age_value = age_value + response_delay
abbrev pub corrected_age_value : List Field → ℕ → ℕ → ℤ
corrected_age_value lines request_time response_time = pos (age_value lines * second) +ℤ response_delay request_time response_time

-- corrected_initial_age = max(apparent_age, corrected_age_value)
abbrev pub corrected_initial_age : List Field → ℕ → ℕ → ℤ
corrected_initial_age lines request_time response_time =
    int_max (apparent_age lines response_time) (corrected_age_value lines request_time response_time)

-- resident_time = now - response_time
abbrev pub resident_time : ℕ → ℕ → ℤ
resident_time response_time now = pos now -ℤ pos response_time

-- without apparent_age where the operator doesn't trust Date
abbrev pub initial_age : List Field → ℕ → ℕ → Chosen → ℤ
initial_age lines request_time response_time o =
    if o.trusts_date then corrected_initial_age lines request_time response_time else corrected_age_value lines request_time response_time

-- current_age = corrected_initial_age + resident_time
abbrev pub current_age : List Field → ℕ → ℕ → ℕ → Chosen → ℤ
current_age lines request_time response_time now o = initial_age lines request_time response_time o +ℤ resident_time response_time now
