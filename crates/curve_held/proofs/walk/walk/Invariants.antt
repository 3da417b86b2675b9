use Rattle.std.proofs.Common.{◌≤◌}
use Rattle.curve_held.specs.Walks.{IsWalked}
use Rattle.curve_held.proofs.walk.walk.Given as goal

abbrev pub invariant-loop-entry : goal.invariant-loop-entry
invariant-loop-entry l = IsWalked l.curve l.latest l.entry l.counts l.oldest.items × (l.counts.total ≤ l.entry)
