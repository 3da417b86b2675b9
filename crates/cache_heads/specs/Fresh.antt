-- Whether a kept response is fresh at a moment, and whether it may be served stale.
use Rattle.std.specs.Prelude.{ℕ, Bool, true, not, ◌&&◌, ◌==◌, if◌then◌else◌, Option, Some, None}
use Rattle.cache_words.specs.Time.{MomentValue, at_most, later_by, span_of}

-- fresh up to the last moment, and at it
abbrev pub is_fresh_at : MomentValue → MomentValue → Bool
is_fresh_at until moment = at_most moment until

-- no later than an end; no moment is later than an end out of range
abbrev pub is_within : Option MomentValue → MomentValue → Bool
is_within None moment = true
is_within (Some end) moment = at_most moment end

-- stale responses may be served for a window after their freshness ends; a window of 0 is none
abbrev pub serves_stale : MomentValue → ℕ → MomentValue → Bool
serves_stale until window moment = not (window == 0) && is_within (later_by until (span_of window)) moment

-- the earlier of two moments
abbrev pub earlier_of : MomentValue → MomentValue → MomentValue
earlier_of a b = if at_most a b then a else b
