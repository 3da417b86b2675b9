-- What was found under the key that was looked up: whether it is good for others, and what a response does to it (RFC 9111, 4.2.4, 4.3.5; RFC 5861).
use Rattle.std.specs.Prelude.{ℕ, ◌+◌, ◌*◌, max, pos, int_le, nat_lt, Bool, true, false, not, ◌&&◌, ◌||◌, ◌==◌, Option}
use Rattle.std.specs.Option.{option_map_or}
use Rattle.rules_fields.specs.Types.{KeptHead}
use Rattle.rules_storage.specs.Ages.{age, is_fresh, second}
use Rattle.rules_storage.specs.declared.reason.Reason.{Reason}
use Rattle.rules_storage.specs.declared.reason.Reason.TheVariants.{Method, RequestNoStore, Authorization, SetCookie, NotModified}

-- past its freshness by at most so many seconds
abbrev pub is_late_by : KeptHead → ℕ → ℕ → Bool
is_late_by kept now seconds = int_le (age kept.arrival now) (pos (kept.lifetime * second + seconds * second))

-- the longer of its windows for stale use
abbrev pub most_window : KeptHead → ℕ
most_window kept = max kept.stale_while_revalidate kept.stale_if_error

-- it is good: fresh, or past that by at most one of its own windows, whatever a request says
abbrev pub is_good : KeptHead → ℕ → Bool
is_good kept now =
    is_fresh kept.arrival kept.lifetime now || (is_late_by kept now (most_window kept) && not (most_window kept == 0))

-- a status that says that there is nothing any more
abbrev pub says_gone : ℕ → Bool
says_gone code = code == 404 || code == 410

-- what is good keeps its place before an error
abbrev pub outlasts_error : KeptHead → ℕ → ℕ → Bool
outlasts_error kept code now = is_good kept now && not (nat_lt code 400) && not (says_gone code)

-- what is fresh keeps its place before what would be kept, and stale at once
abbrev pub outlasts_stale : KeptHead → ℕ → ℕ → Bool
outlasts_stale kept lifetime now = is_fresh kept.arrival kept.lifetime now && lifetime == 0

-- what was found goes: there is nothing any more, or it isn't good, and what came is no error
abbrev pub is_outdated : KeptHead → ℕ → ℕ → Bool
is_outdated kept code now = says_gone code || (nat_lt code 400 && not (is_good kept now))

-- a reason of the exchange says nothing of what is stored already
abbrev pub is_of_the_exchange : Reason → Bool
is_of_the_exchange Method = true
is_of_the_exchange RequestNoStore = true
is_of_the_exchange Authorization = true
is_of_the_exchange SetCookie = true
-- (a 304 to the client's own condition)
is_of_the_exchange NotModified = true
is_of_the_exchange _ = false

-- something was found, and keeps its place
abbrev pub is_error_outlasted : Option KeptHead → ℕ → ℕ → Bool
is_error_outlasted found code now = option_map_or (λ kept. outlasts_error kept code now) found false

abbrev pub is_stale_outlasted : Option KeptHead → ℕ → ℕ → Bool
is_stale_outlasted found lifetime now = option_map_or (λ kept. outlasts_stale kept lifetime now) found false

-- something was found, and goes: unless it is of the exchange why the response itself isn't stored
abbrev pub removes : Option KeptHead → ℕ → ℕ → Reason → Bool
removes found code now why = option_map_or (λ kept. is_outdated kept code now) found false && not (is_of_the_exchange why)
