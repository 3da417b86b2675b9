use Rattle.std.proofs.Common.{Option, sym, ap, ◌∙◌, subst, inl}
use Rattle.std.specs.Prelude.{Result, Err}
use Rattle.tier_model.specs.Calls.{done_of}
use Rattle.tier_model.specs.declared.event.Answer.{Answer}
use Rattle.tier_model.specs.declared.event.TierFault.{TierFault}
use Rattle.tier_single.specs.declared.found.FoundMeta.{FoundMeta}
use Rattle.tier_calls.specs.Hits.{LooksUpStale}
use Rattle.tier_calls.specs.declared.held.TierHandle.{TierHandle}
use Rattle.tier_calls.proofs.held.TierHandle.lookup_stale.Goals as goal

pub returns-in-Some-Err : goal.returns-in-Some-Err
returns-in-Some-Err c =
    let finds : LooksUpStale c.args.self.now.tier c.args.id (Err c.in-Some-Err.fault) c.lookup_stale.new.self =
    subst (λ (x : Result (Answer × Option FoundMeta) TierFault). LooksUpStale c.args.self.now.tier c.args.id x c.lookup_stale.new.self) c.in-Some-Err.field-0-is c.in-Some-Err.ensures.some in
    inl (
      Err c.in-Some-Err.fault,
      subst (λ (x : TierHandle). LooksUpStale c.args.self.now.tier c.args.id (Err c.in-Some-Err.fault) x.tier) (sym c.refusal_out.ensures.kept) finds,
      (c.refusal_out.ensures.answer, c.refusal_out.ensures.nothing),
      c.refusal_out.ensures.kept
          ∙ ap (λ (x : TierHandle). record c.args.self.now { tier = x.tier; evicted = (done_of c.in-Some-Err.fault).evicted }) (sym c.refusal_out.ensures.kept),
    )
