use Rattle.std.proofs.Common.{◌≡◌, ◌+◌, ◌<◌, ℕ, length, get_or}
use Rattle.curve_runs.specs.Sums.{front}
use Rattle.curve_runs.specs.Counts.{counted}
use Rattle.curve_runs.proofs.spans.Spans.rows.Given as goal

abbrev pub invariant-loop-i : goal.invariant-loop-i
invariant-loop-i l = (length l.rows.items ≡ l.i) × (l.more + front l.i l.self.ended.items ≡ front l.i l.self.begun.items)
    × ((j : ℕ) → j < l.i → get_or l.rows.items j 0 ≡ counted j l.self)
