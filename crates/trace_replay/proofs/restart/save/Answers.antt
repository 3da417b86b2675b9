use Rattle.std.proofs.Common.{◌≡◌, length, subst, arith, rules, Ok, Err}
use Rattle.std.proofs.lemmas.Result.{on_ok_weaker}
use Rattle.std.specs.Io.KnownBytes.{Appends}
use Rattle.tier_model.specs.declared.event.TierFault.TheVariants as fault
use Rattle.trace_replay.specs.Outputs.{HasBegun}
use Rattle.trace_replay.specs.Replays.{ended}
use Rattle.trace_replay.specs.Restarts.{counts_text}
use Rattle.trace_replay.proofs.OutputLemmas.{begun_whole, on_err, on_err_weaker}
use Rattle.trace_replay.proofs.restart.save.Goals as goal

pub returns-in-Ok-clause-saved : goal.returns-in-Ok-clause-saved
returns-in-Ok-clause-saved g c =
    let count : c.len.result ≡ length c.in-Ok.report.failed.items = first_of (omega (arith, c.len.ensures, c.in-Ok.report.failed.ok), search rules) in
    on_ok_weaker c.write_saved.result (λ appended. (
      c.in-Ok.report,
      c.in-Ok.ensures.saved,
      subst (λ n. Appends (g.W.Write.contents c.args.writer.now) (g.W.Write.contents c.write_saved.new.writer) (ended (counts_text c.in-Ok.report.saved n))) count appended,
    )) c.write_saved.ensures.written

pub returns-in-Ok-clause-early : goal.returns-in-Ok-clause-early
returns-in-Ok-clause-early g c =
    let count : c.len.result ≡ length c.in-Ok.report.failed.items = first_of (omega (arith, c.len.ensures, c.in-Ok.report.failed.ok), search rules) in
    on_err_weaker c.write_saved.result (λ begun. (
      Ok c.in-Ok.report,
      c.in-Ok.ensures.saved,
      subst (λ n. HasBegun (g.W.Write.contents c.args.writer.now) (g.W.Write.contents c.write_saved.new.writer) (ended (counts_text c.in-Ok.report.saved n))) count begun,
    )) c.write_saved.ensures.begun

pub returns-in-Err-Folder-clause-unsaved : goal.returns-in-Err-Folder-clause-unsaved
returns-in-Err-Folder-clause-unsaved g c = λ told. (rw c.in-Err-Folder.field-0-is at c.in-Err-Folder.ensures.saved, c.in_ok-write_saved-in-Err-Folder.ensures.written)

pub returns-in_err-write_saved-in-Err-Folder-clause-early : goal.returns-in_err-write_saved-in-Err-Folder-clause-early
returns-in_err-write_saved-in-Err-Folder-clause-early g c =
    on_err c.from_residual.result
    (Err fault.Folder, rw c.in-Err-Folder.field-0-is at c.in-Err-Folder.ensures.saved, c.in_err-write_saved-in-Err-Folder.ensures.begun)

pub returns-in-Err-Folder-clause-early : goal.returns-in-Err-Folder-clause-early
returns-in-Err-Folder-clause-early g c = (
  Err fault.Folder,
  rw c.in-Err-Folder.field-0-is at c.in-Err-Folder.ensures.saved,
  begun_whole (g.W.Write.contents c.args.writer.now) (g.W.Write.contents c.write_saved-in-Err-Folder.new.writer) (ended (counts_text 0 g.row.N)) c.in_ok-write_saved-in-Err-Folder.ensures.written,
)
