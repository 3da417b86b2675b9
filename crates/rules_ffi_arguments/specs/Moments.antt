-- Moments. 18446744072 is the last second whose nanoseconds fit in 64 bits.
use Rattle.std.specs.Prelude.{ℕ, ◌+◌, ◌*◌, ◌-◌, ◌^◌, ◌/◌, ◌%◌, Bool, not, ◌&&◌, nat_lt, if◌then◌else◌, Option}
use Rattle.rules_ffi_arguments.specs.declared.shapes.Moment.{Moment}
use Rattle.rules_ffi_arguments.specs.Given.{only_if}

abbrev pub is_moment : ℕ → ℕ → Bool
is_moment seconds nanoseconds = not (nat_lt 18446744072 seconds) && nat_lt nanoseconds 1000000000

abbrev pub moment_in : ℕ → ℕ → Option ℕ
moment_in seconds nanoseconds = only_if (is_moment seconds nanoseconds) (seconds * 1000000000 + nanoseconds)

abbrev pub moment_at : ℕ → Moment
moment_at n = record { seconds = n / 1000000000; nanoseconds = n % 1000000000 }

-- one that no clock shows is the last one
abbrev pub nanoseconds_of : Moment → ℕ
nanoseconds_of m = if is_moment m.seconds m.nanoseconds then m.seconds * 1000000000 + m.nanoseconds else 2 ^ 64 - 1
