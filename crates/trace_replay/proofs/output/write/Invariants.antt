-- The text so far is written.
use Rattle.trace_replay.specs.Outputs.{Passes}
use Rattle.trace_replay.proofs.output.write.Given as goal

abbrev pub invariant-loop : goal.invariant-loop
invariant-loop g l = Passes (g.W.Write.contents l.fn.writer) (g.W.Write.contents l.writer) l.fn.text l.rest
