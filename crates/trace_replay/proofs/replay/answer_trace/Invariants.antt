-- The lines that were taken are answered, from whichever beginning.
use Rattle.std.proofs.Common.{◌≡◌, []}
use Rattle.std.specs.Io.KnownBytes.{prepend_known}
use Rattle.tier_model.specs.Past.{HasPast}
use Rattle.trace_replay.specs.Replays.{Start}
use Rattle.trace_replay.specs.Words.{pcg_words}
use Rattle.trace_replay.proofs.Progress.{Halfway}
use Rattle.trace_replay.proofs.replay.answer_trace.Given as goal

abbrev pub invariant-loop : goal.invariant-loop
invariant-loop g l = (start : Start) → HasPast start.opening l.fn.tier [] → pcg_words l.fn.rng ≡ start.words
    → Halfway start l.counter (g.R.Read.remaining l.fn.reader) (prepend_known l.input (g.R.Read.remaining l.reader)) (g.W.Write.contents l.fn.writer) (g.W.Write.contents l.writer) l.waiting.items (record { state = l.tier; words = pcg_words l.rng })
