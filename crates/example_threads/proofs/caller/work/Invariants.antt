use Rattle.std.proofs.Common.{◌≡◌, ◌+◌}
use Rattle.example_threads.proofs.caller.work.Given as goal

-- as many calls as numbers
abbrev pub invariant-loop-number : goal.invariant-loop-number
invariant-loop-number g l = (g.T.Shared.made l.pass ≡ g.T.Shared.made l.fn.pass + l.number) × (l.tally.calls ≡ l.number)
