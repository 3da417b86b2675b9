-- Counts by size.
use Rattle.std.specs.Prelude.{ℕ, ◌-◌, suc, nat_lt, nat_le, ◌&&◌, if◌then◌else◌}
use Rattle.curve_runs.specs.declared.run.Load.{Load}
use Rattle.curve_runs.specs.declared.spans.Spans.{Spans}
use Rattle.curve_runs.specs.Sums.{front}

-- what was counted at size i: what began there or before it, less what ended
abbrev pub counted : ℕ → Spans → ℕ
counted i s = front (suc i) s.begun.items - front (suc i) s.ended.items

-- what a count of a value from one size on, and before another, adds at size i
abbrev pub added : (from to value i : ℕ) → ℕ
added from to value i = if nat_le from i && nat_lt i to then value else 0

-- what a request adds at size i, whose last load of the entry is stale from `had` on: the value, where it is found fresh
abbrev pub fresh : Load → (value i had : ℕ) → ℕ
fresh l value i had = if nat_le l.first i && nat_lt l.moment had then value else 0
