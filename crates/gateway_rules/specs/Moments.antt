-- Moments, and how the tier has them.
use Rattle.std.specs.Prelude.{ℕ, ◌+◌, ◌-◌, ◌^◌, ℤ, pos, negsuc, Bool, ◌==◌, nat_lt, nat_le, min, if◌then◌else◌}
use Rattle.cache_words.specs.Time.{MomentValue, second, from_seconds}
use Rattle.rules_ffi_arguments.specs.declared.shapes.Moment.{Moment}

-- as far as 64 bits show it
abbrev pub later : Moment → ℕ → Moment
later m seconds = record { seconds = min (m.seconds + seconds) (2 ^ 64 - 1); nanoseconds = m.nanoseconds }

-- it isn't before another
abbrev pub is_past : Moment → Moment → Bool
is_past m other = if m.seconds == other.seconds then nat_le other.nanoseconds m.nanoseconds else nat_lt other.seconds m.seconds

-- seconds beyond those that it counts are its last one; where it can't have the nanoseconds it is the first moment
abbrev pub of_tier : Moment → MomentValue
of_tier m =
    if nat_lt m.nanoseconds second then record { seconds = pos (min m.seconds (2 ^ 63 - 1)); nanoseconds = m.nanoseconds } else from_seconds (pos 0)

-- the seconds are 0 before 1970
abbrev pub seconds_of : ℤ → ℕ
seconds_of (pos n) = n
seconds_of (negsuc n) = 0

abbrev pub from_tier : MomentValue → Moment
from_tier t = record { seconds = seconds_of t.seconds; nanoseconds = t.nanoseconds }
