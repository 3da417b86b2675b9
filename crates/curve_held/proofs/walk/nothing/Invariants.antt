use Rattle.std.proofs.Common.{◌≡◌, replicate, None}
use Rattle.curve_held.proofs.walk.nothing.Given as goal

abbrev pub invariant-loop : goal.invariant-loop
invariant-loop l = l.oldest.items ≡ replicate l.counter None
