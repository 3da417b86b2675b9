use Rattle.curve_keys.specs.Shares.{IsFinished}
use Rattle.curve_keys.proofs.Passes.{Reached}
use Rattle.curve_keys.proofs.readings.finish_parts.Given as goal

abbrev pub invariant-loop-i : goal.invariant-loop-i
invariant-loop-i l = Reached IsFinished l.i l.fn.parts.items l.parts.items
