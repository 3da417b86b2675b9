use Rattle.std.proofs.Common.{◌≡◌, drop}
use Rattle.head_directives.specs.Seconds.{seconds_from}
use Rattle.head_directives.proofs.value.number.Given as goal

abbrev pub invariant-loop-b : goal.invariant-loop-b
invariant-loop-b l = seconds_from l.n (drop l.b-index l.text) ≡ seconds_from 0 l.text
