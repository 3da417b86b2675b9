use Rattle.std.proofs.Common.{subst, sym}
use Rattle.std.proofs.lemmas.List.{take_rest}
use Rattle.trace_replay.specs.Outputs.{Passes}
use Rattle.trace_replay.proofs.OutputLemmas.{passes_more}
use Rattle.trace_replay.proofs.output.write.Goals as goal

pub loop-preserved : goal.loop-preserved
loop-preserved g c =
    subst (Passes (g.W.Write.contents c.args.writer.now) (g.W.Write.contents c.write_some.new.writer) c.args.text.now) (sym (take_rest c.loop.rest.now c.in_ok-count.count))
    (passes_more (g.W.Write.contents c.args.writer.now) (g.W.Write.contents c.loop.writer) (g.W.Write.contents c.write_some.new.writer) c.args.text.now c.loop.rest.now c.in_ok-count.count
    c.loop.invariant c.in_ok-count.ensures.bytes)
