-- The counts of look-ups after an outcome of one.
use Rattle.std.specs.Prelude.{ℕ, Ok, Err}
use Rattle.tier_model.specs.declared.event.Answer.TheVariants.{Absent}
use Rattle.tier_model.specs.Calls.{Outcome}
use Rattle.tier_model.specs.After.{counted}

abbrev pub found_after : Outcome → ℕ → ℕ
found_after (Ok (Absent given)) n = n
found_after (Ok a) n = counted n 1
found_after (Err f) n = n

abbrev pub absent_after : Outcome → ℕ → ℕ
absent_after (Ok (Absent given)) n = counted n 1
absent_after _ n = n
