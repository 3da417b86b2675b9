use Rattle.std.proofs.Common.{◌∙◌, subst}
use Rattle.trace_replay.specs.Outputs.{HasBegun}
use Rattle.trace_replay.specs.Replays.{ended}
use Rattle.trace_replay.specs.Restarts.{counts_text}
use Rattle.trace_replay.proofs.OutputLemmas.{begun_none, on_err, on_err_weaker}
use Rattle.trace_replay.proofs.restart.write_saved.Goals as goal

pub returns-in_err-line-clause-begun : goal.returns-in_err-line-clause-begun
returns-in_err-line-clause-begun g c = on_err c.from_residual.result (begun_none (g.W.Write.contents c.args.writer.now) (ended (counts_text c.args.saved c.args.failed)))

pub returns-clause-begun : goal.returns-clause-begun
returns-clause-begun g c =
    on_err_weaker c.write_line.result
    (subst (λ t. HasBegun (g.W.Write.contents c.args.writer.now) (g.W.Write.contents c.write_line.new.writer) (ended t)) (c.as_str.ensures.value ∙ c.in_ok-line.ensures))
    c.write_line.ensures.begun
