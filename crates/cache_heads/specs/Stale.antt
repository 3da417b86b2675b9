-- How long a stale response may be served (RFC 5861): by its directives, else by the defaults. A `no-cache` directive
-- leaves the windows as they are, as in the original; RFC 9111, 4.2.4, counts it among those that forbid stale responses.
use Rattle.std.specs.Prelude.{ℕ, ◌^◌, nat_lt, if◌then◌else◌, List, Option, option_map, unwrap_or, codes}
use Rattle.std.specs.Option.{option_and_then}
use Rattle.head_directives.specs.Written.{Written}
use Rattle.head_directives.specs.Lifetime.{stale_window}

-- seconds from 2^32 on count as 2147483647, as in the original; RFC 9111, 1.2.2, has 2^31 or the greatest number that fits
abbrev pub in_range : ℕ → ℕ
in_range seconds = if nat_lt seconds (2 ^ 32) then seconds else 2147483647

-- the window by the directives, else the default
abbrev pub window : List ℕ → Option (List Written) → ℕ → ℕ
window name ds default = unwrap_or (option_map in_range (option_and_then (stale_window name) ds)) default

abbrev pub revalidate_window : Option (List Written) → ℕ → ℕ
revalidate_window ds default = window (codes "stale-while-revalidate") ds default

abbrev pub error_window : Option (List Written) → ℕ → ℕ
error_window ds default = window (codes "stale-if-error") ds default
