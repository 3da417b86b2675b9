use Rattle.std.proofs.Common.{◌∙◌, inl, inr, subst, refl}
use Rattle.std.proofs.KnownBytes.{Appends-nil}
use Rattle.std.proofs.lemmas.Result.{on_ok_weaker}
use Rattle.std.specs.Io.KnownBytes.{Appends}
use Rattle.cache_evict.specs.Managed.{fresh}
use Rattle.trace_replay.specs.Outputs.{HasBegun}
use Rattle.trace_replay.specs.Replays.{ended}
use Rattle.trace_replay.specs.Restarts.{loaded_text}
use Rattle.trace_replay.proofs.OutputLemmas.{begun_none, on_err, on_err_weaker, on_ok}
use Rattle.trace_replay.proofs.RestartLaws.{unloaded-unless_ok}
use Rattle.trace_replay.proofs.restart.start.Goals as goal

pub returns-clause-loaded : goal.returns-clause-loaded
returns-clause-loaded g c =
    on_ok_weaker c.write_line.result (λ appended. (
      c.in-Ok.report,
      c.in-Ok.ensures.loads,
      subst (λ t. Appends (g.W.Write.contents c.args.writer.now) (g.W.Write.contents c.write_line.new.writer) (ended t)) (c.as_str.ensures.value ∙ c.in_ok-line.ensures) appended,
    )) c.write_line.ensures.written

pub returns-in_default-clause-early : goal.returns-in_default-clause-early
returns-in_default-clause-early g c = inl (
  unloaded-unless_ok g.F.Folder.did g.F.Folder.failures_of g.F.Folder.keeps g.F.Folder.files g.row.N c.args.dir.now (fresh g.row.N c.args.tier.now.managed.limit c.args.tier.now.managed.watermark) c.start.new.self.managed c.args.folder.now c.start.new.folder c.start.result
      c.in_default.not-Ok c.start.ensures.loads,
  Appends-nil (g.W.Write.contents c.args.writer.now),
)

pub returns-in_err-line-clause-early : goal.returns-in_err-line-clause-early
returns-in_err-line-clause-early g c =
    on_err c.from_residual.result (inr (c.in-Ok.report, c.in-Ok.ensures.loads, begun_none (g.W.Write.contents c.args.writer.now) (ended (loaded_text c.in-Ok.report))))

pub returns-clause-early : goal.returns-clause-early
returns-clause-early g c =
    on_err_weaker c.write_line.result (λ begun. inr (
      c.in-Ok.report,
      c.in-Ok.ensures.loads,
      subst (λ t. HasBegun (g.W.Write.contents c.args.writer.now) (g.W.Write.contents c.write_line.new.writer) (ended t)) (c.as_str.ensures.value ∙ c.in_ok-line.ensures) begun,
    )) c.write_line.ensures.begun

pub returns-in_default-clause-reported : goal.returns-in_default-clause-reported
returns-in_default-clause-reported g c = inl refl

pub returns-in_err-line-clause-reported : goal.returns-in_err-line-clause-reported
returns-in_err-line-clause-reported g c = inl refl

pub returns-clause-reported : goal.returns-clause-reported
returns-clause-reported g c = inr (c.in-Ok.report, refl, c.in-Ok.ensures.loads)

pub returns-clause-reports : goal.returns-clause-reports
returns-clause-reports g c = on_ok c.write_line.result refl
