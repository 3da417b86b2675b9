use Rattle.std.proofs.Common.{◌≡◌, ◌≤◌, ◌-◌, length}
use Rattle.curve_words.specs.Columns.{part_at}
use Rattle.curve_words.proofs.columns.part_at.Given as goal

abbrev pub invariant-loop : goal.invariant-loop
invariant-loop l = (length l.rest ≤ length l.text) × (part_at l.delimiter (l.n - l.counter) l.rest ≡ part_at l.delimiter l.n l.text)
