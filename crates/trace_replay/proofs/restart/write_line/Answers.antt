use Rattle.std.proofs.Common.{◌≡◌, rules, subst}
use Rattle.trace_replay.specs.Outputs.{HasBegun}
use Rattle.trace_replay.specs.Replays.{ended}
use Rattle.trace_replay.proofs.OutputLemmas.{begun_none, on_err, on_err_weaker}
use Rattle.trace_replay.proofs.restart.write_line.Goals as goal

pub returns-in_err-extend_from_slice-clause-begun : goal.returns-in_err-extend_from_slice-clause-begun
returns-in_err-extend_from_slice-clause-begun g c = on_err c.from_residual.result (begun_none (g.W.Write.contents c.args.writer.now) (ended c.args.line.now))

pub returns-in_err-push-clause-begun : goal.returns-in_err-push-clause-begun
returns-in_err-push-clause-begun g c = on_err c.from_residual-in_err-push.result (begun_none (g.W.Write.contents c.args.writer.now) (ended c.args.line.now))

pub returns-clause-begun : goal.returns-clause-begun
returns-clause-begun g c =
    let whole : c.push.new.self.items ≡ ended c.args.line.now = search rules in
    on_err_weaker c.hand_on.result (subst (HasBegun (g.W.Write.contents c.args.writer.now) (g.W.Write.contents c.hand_on.new.writer)) whole) c.hand_on.ensures.begun
