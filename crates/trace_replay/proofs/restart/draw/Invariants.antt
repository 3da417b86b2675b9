-- Some words are drawn, and the others are to come.
use Rattle.std.proofs.Common.{◌-◌}
use Rattle.trace_replay.specs.Words.{pcg_words}
use Rattle.trace_replay.proofs.DrawLaws.{IsDrawing}
use Rattle.trace_replay.proofs.restart.draw.Given as goal

abbrev pub invariant-loop : goal.invariant-loop
invariant-loop l = IsDrawing l.count (pcg_words l.fn.rng) l.words.items (l.count - l.counter) (pcg_words l.rng)
