-- The lifetimes by status that the cases were made with.
use Rattle.std.specs.Prelude.{ℕ, Bool, true, false, ◌==◌, if◌then◌else◌, Option, Some, None}
use Rattle.cache_words.specs.Time.{DurationValue, span_of}
use Rattle.test_heads.specs.declared.heads.ByStatus.{ByStatus}

abbrev pub lifetime_by : Bool → ℕ → Option DurationValue
lifetime_by false status = None
lifetime_by true status =
    if status == 200 then Some (span_of 10)
    else (if status == 404 then Some (span_of 5) else (if status == 206 then None else Some (span_of 1)))

abbrev pub by_status : ByStatus → ℕ → Option DurationValue
by_status d status = lifetime_by d.is_on status
