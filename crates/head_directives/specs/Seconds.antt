-- Delta-seconds: a value without its quotes, an optional `+`, which RFC 9111, 1.2.2 does not have, and digits.
use Rattle.std.specs.Prelude.{ℕ, ◌+◌, ◌-◌, ◌*◌, ◌^◌, ◌&&◌, ◌==◌, nat_le, if◌then◌else◌, List, [], ◌∷◌, length, slice_index, slice_range, Option, Some, None, option_map}
use Rattle.std.specs.Char.{is_ascii_digit}
use Rattle.std.specs.Str.{is_utf8}
use Rattle.head_directives.specs.declared.TheConstants.{DELTA_SECONDS_OVERFLOW_VALUE}

-- without one pair of enclosing quotes
abbrev pub unquoted : List ℕ → List ℕ
unquoted value =
    if nat_le 2 (length value) && (slice_index value 0 == 34 && slice_index value (length value - 1) == 34)
    then slice_range value 1 (length value - 1)
    else value

-- the number that digits after n give. A byte that is no digit is an error where it comes first, and a number past 32
-- bits counts as `DELTA_SECONDS_OVERFLOW_VALUE`
abbrev pub seconds_from : ℕ → List ℕ → Option ℕ
seconds_from n [] = Some n
seconds_from n (b ∷ bytes) =
    if is_ascii_digit b
    then (if nat_le (2 ^ 32) (10 * n + (b - 48)) then Some DELTA_SECONDS_OVERFLOW_VALUE else seconds_from (10 * n + (b - 48)) bytes)
    else None

abbrev pub digits : List ℕ → Option ℕ
digits [] = None
digits (b ∷ bytes) = seconds_from 0 (b ∷ bytes)

abbrev pub seconds_of : List ℕ → Option ℕ
seconds_of [] = None
seconds_of (b ∷ bytes) = if b == 43 then digits bytes else digits (b ∷ bytes)

-- the seconds that a value says; none where it cannot be read
abbrev pub delta_seconds : List ℕ → Option ℕ
delta_seconds value = if is_utf8 (unquoted value) then seconds_of (unquoted value) else None

-- the seconds under a name: none where a value is there that cannot be read
abbrev pub read_seconds : Option (List ℕ) → Option (Option ℕ)
read_seconds None = Some None
read_seconds (Some value) = option_map Some (delta_seconds value)
