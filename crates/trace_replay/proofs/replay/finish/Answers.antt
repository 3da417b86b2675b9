use Rattle.std.proofs.Common.{subst}
use Rattle.tier_model.specs.Reports.{report_of}
use Rattle.trace_lines.specs.Texts.{report_text}
use Rattle.trace_replay.specs.Outputs.{HasBegun}
use Rattle.trace_replay.specs.Replays.{ended}
use Rattle.trace_replay.proofs.OutputLemmas.{begun_longer, on_err, on_err_weaker, not_err}
use Rattle.trace_replay.proofs.replay.finish.Goals as goal

pub returns-in_err-hand_on-clause-begun : goal.returns-in_err-hand_on-clause-begun
returns-in_err-hand_on-clause-begun g c =
    on_err c.from_residual.result
    (begun_longer (g.W.Write.contents c.args.writer.now) (g.W.Write.contents c.hand_on.new.writer) c.args.waiting.now.items (ended (report_text (report_of c.args.tier.now)))
    (subst (HasBegun (g.W.Write.contents c.args.writer.now) (g.W.Write.contents c.hand_on.new.writer)) c.in-Err.ensures.err c.in_err-hand_on.ensures.begun))

pub returns-clause-begun : goal.returns-clause-begun
returns-clause-begun g c =
    on_err_weaker c.hand_on-2.result
    (subst (HasBegun (g.W.Write.contents c.args.writer.now) (g.W.Write.contents c.hand_on-2.new.writer)) (not_err c.report.result c.in_default.not-Err c.report.ensures.ok))
    c.hand_on-2.ensures.begun
