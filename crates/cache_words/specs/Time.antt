-- Points in time and lengths of time, as seconds and nanoseconds. What the contracts of `Moment` and `Duration` say.
use Rattle.std.specs.Prelude.{ℕ, ◌+◌, ◌-◌, ◌/◌, ◌%◌, ◌^◌, ℤ, pos, negsuc, ◌+ℤ◌, ◌-ℤ◌, nat_abs, Bool, true, ◌&&◌, nat_lt, nat_le, int_lt, int_le, if◌then◌else◌, Option, Some, None}

-- a point in time: whole seconds since 1970, negative before it, and the nanoseconds after them, below a second
pub record MomentValue : Type 0 where
  pub seconds : ℤ
  pub nanoseconds : ℕ

-- a length of time
pub record DurationValue : Type 0 where
  pub seconds : ℕ
  pub nanoseconds : ℕ

-- the nanoseconds of a second
abbrev pub second : ℕ
second = 1000000000

abbrev pub from_seconds : ℤ → MomentValue
from_seconds s = record { seconds = s; nanoseconds = 0 }

abbrev pub span_of : ℕ → DurationValue
span_of s = record { seconds = s; nanoseconds = 0 }

-- the first is no later than the second
abbrev pub at_most : MomentValue → MomentValue → Bool
at_most a b =
    if int_lt a.seconds b.seconds
    then true
    else int_le a.seconds b.seconds && nat_le a.nanoseconds b.nanoseconds

-- the first is at least as long as the second
abbrev pub at_least : DurationValue → DurationValue → Bool
at_least a b =
    if nat_lt b.seconds a.seconds
    then true
    else nat_le b.seconds a.seconds && nat_le b.nanoseconds a.nanoseconds

-- the seconds fit in 64 bits with a sign
abbrev pub fits_i64 : ℤ → Bool
fits_i64 (pos n) = nat_lt n (2 ^ 63)
fits_i64 (negsuc n) = nat_lt n (2 ^ 63)

-- an instant whose seconds fit, else none
abbrev pub instant : ℤ → ℕ → Option MomentValue
instant s n = if fits_i64 s then Some (record { seconds = s; nanoseconds = n }) else None

-- the instant a span later; none where its seconds don't fit
abbrev pub later_by : MomentValue → DurationValue → Option MomentValue
later_by t d =
    let n : ℕ = t.nanoseconds + d.nanoseconds in
    instant (t.seconds +ℤ pos (d.seconds + n / second)) (n % second)

-- the instant a span earlier; none where its seconds don't fit. A missing nanosecond is borrowed from the seconds
abbrev pub earlier_by : MomentValue → DurationValue → Option MomentValue
earlier_by t d =
    if nat_lt t.nanoseconds d.nanoseconds
    then instant (t.seconds -ℤ pos (d.seconds + 1)) (t.nanoseconds + second - d.nanoseconds)
    else instant (t.seconds -ℤ pos d.seconds) (t.nanoseconds - d.nanoseconds)

-- one time less another that is no longer: a missing nanosecond is borrowed from the seconds
abbrev pub less : ℕ → ℕ → ℕ → DurationValue
less seconds later earlier =
    if nat_lt later earlier
    then record { seconds = seconds - 1; nanoseconds = later + second - earlier }
    else record { seconds = seconds; nanoseconds = later - earlier }

-- the greatest time that a `Duration` holds
abbrev pub greatest : DurationValue
greatest = record { seconds = 2 ^ 64 - 1; nanoseconds = second - 1 }

-- the time from the first to the second; nothing where the second is before the first
abbrev pub elapsed : MomentValue → MomentValue → DurationValue
elapsed a b =
    if at_most a b
    then less (nat_abs (b.seconds -ℤ a.seconds)) b.nanoseconds a.nanoseconds
    else span_of 0

-- what is left of the first after the second; nothing where the second is longer
abbrev pub difference : DurationValue → DurationValue → DurationValue
difference a b =
    if at_least a b
    then less (a.seconds - b.seconds) a.nanoseconds b.nanoseconds
    else span_of 0

-- both spans, one after the other; none from 2^64 seconds
abbrev pub sum_of : DurationValue → DurationValue → Option DurationValue
sum_of a b =
    let n : ℕ = a.nanoseconds + b.nanoseconds in
    let s : ℕ = a.seconds + b.seconds + n / second in
    if nat_lt s (2 ^ 64) then Some (record { seconds = s; nanoseconds = n % second }) else None
