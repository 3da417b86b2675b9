use Rattle.std.proofs.Common.{refl, ap, subst, inl, inr}
use Rattle.std.specs.Prelude.{Result, Err}
use Rattle.tier_calls.specs.Restarts.{StartsIn}
use Rattle.tier_calls.specs.declared.shards.Loaded.{Loaded}
use Rattle.tier_calls.specs.declared.shards.StartFault.{StartFault}
use Rattle.tier_calls.specs.declared.structs.CallAnswer.{CallAnswer}
use Rattle.tier_calls.proofs.held.TierHandle.start.Goals as goal

pub returns-in-Some-Ok : goal.returns-in-Some-Ok
returns-in-Some-Ok c = inl (
  inl (
    c.in-Some-Ok.report,
    subst (λ (x : Result Loaded StartFault). StartsIn c.args.self.now.tier c.args.self.now.folder x c.start.new.self c.start.new.folder) c.in-Some-Ok.field-0-is c.in-Some-Ok.ensures.some,
    ap (λ (t : CallAnswer). record t { number = c.in-Some-Ok.report.loaded; second = c.in-Some-Ok.report.missing; third = c.in-Some-Ok.report.errored }) c.plain.ensures,
  ),
  refl,
)

pub returns-in-Some-Err-NotNew : goal.returns-in-Some-Err-NotNew
returns-in-Some-Err-NotNew c = inl (
  inr (inl (
    subst (λ (f : StartFault). StartsIn c.args.self.now.tier c.args.self.now.folder (Err f) c.start.new.self c.start.new.folder) c.in-Some-Err-NotNew.field-0-0-is
        (subst (λ (x : Result Loaded StartFault). StartsIn c.args.self.now.tier c.args.self.now.folder x c.start.new.self c.start.new.folder) c.in-Some-Err-NotNew.field-0-is c.in-Some-Err-NotNew.ensures.some),
    c.plain-in-Some-Err-NotNew.ensures,
  )),
  refl,
)

pub returns-in-Some-Err-Memory : goal.returns-in-Some-Err-Memory
returns-in-Some-Err-Memory c = inl (
  inr (inr (
    subst (λ (f : StartFault). StartsIn c.args.self.now.tier c.args.self.now.folder (Err f) c.start.new.self c.start.new.folder) c.in-Some-Err-Memory.field-0-0-is
        (subst (λ (x : Result Loaded StartFault). StartsIn c.args.self.now.tier c.args.self.now.folder x c.start.new.self c.start.new.folder) c.in-Some-Err-Memory.field-0-is c.in-Some-Err-Memory.ensures.some),
    c.plain-in-Some-Err-Memory.ensures,
  )),
  refl,
)
