use Rattle.std.proofs.Common.{refl, ap, ◌∙◌, subst, inl, inr}
use Rattle.std.specs.Prelude.{Result}
use Rattle.tier_model.specs.declared.event.TierFault.{TierFault}
use Rattle.tier_calls.specs.Restarts.{SavesIn}
use Rattle.tier_calls.specs.Told.{plain}
use Rattle.tier_calls.specs.declared.shards.Saved.{Saved}
use Rattle.tier_calls.specs.declared.structs.CallAnswer.{CallAnswer}
use Rattle.tier_calls.proofs.held.TierHandle.save_all.Goals as goal

pub returns-in-Some-Ok : goal.returns-in-Some-Ok
returns-in-Some-Ok c = inl (
  inl (
    c.in-Some-Ok.report,
    (
      c.new-folder.result,
      c.new-folder.ensures.files,
      subst (λ (x : Result Saved TierFault). SavesIn c.args.self.now.tier c.new-folder.result x c.save.new.folder) c.in-Some-Ok.field-0-is c.in-Some-Ok.ensures.some,
    ),
    ap (λ (t : CallAnswer). record t { number = c.in-Some-Ok.report.saved; second = c.in-Some-Ok.report.failed }) c.plain.ensures,
  ),
  refl,
)

pub returns-in-Some-Err : goal.returns-in-Some-Err
returns-in-Some-Err c = inl (
  inr (
    c.in-Some-Err.fault,
    c.save.new.folder,
    (
      c.new-folder.result,
      c.new-folder.ensures.files,
      subst (λ (x : Result Saved TierFault). SavesIn c.args.self.now.tier c.new-folder.result x c.save.new.folder) c.in-Some-Err.field-0-is c.in-Some-Err.ensures.some,
    ),
    refl,
    c.plain-in-Some-Err.ensures ∙ ap plain c.fault_number.ensures,
  ),
  refl,
)
