use Rattle.std.proofs.Common.{Option, sym, ap, ◌∙◌, subst, inl}
use Rattle.std.specs.Prelude.{Result, Err}
use Rattle.tier_model.specs.Calls.{done_of}
use Rattle.tier_model.specs.declared.event.Answer.{Answer}
use Rattle.tier_model.specs.declared.event.TierFault.{TierFault}
use Rattle.tier_single.specs.declared.found.FoundMeta.{FoundMeta}
use Rattle.tier_calls.specs.Hits.{FindsIn}
use Rattle.tier_calls.specs.declared.held.TierHandle.{TierHandle}
use Rattle.tier_calls.proofs.held.TierHandle.find_by.Goals as goal

pub returns-in-Some-Err : goal.returns-in-Some-Err
returns-in-Some-Err c =
    let finds : FindsIn c.args.self.now.tier c.args.moment c.args.id (Err c.in-Some-Err.fault) c.find.new.self =
    subst (λ (x : Result (Answer × Option FoundMeta) TierFault). FindsIn c.args.self.now.tier c.args.moment c.args.id x c.find.new.self) c.in-Some-Err.field-0-is c.in-Some-Err.ensures.some in
    inl (
      Err c.in-Some-Err.fault,
      subst (λ (x : TierHandle). FindsIn c.args.self.now.tier c.args.moment c.args.id (Err c.in-Some-Err.fault) x.tier) (sym c.refusal_out.ensures.kept) finds,
      (c.refusal_out.ensures.answer, c.refusal_out.ensures.nothing),
      c.refusal_out.ensures.kept
          ∙ ap (λ (x : TierHandle). record c.args.self.now { tier = x.tier; evicted = (done_of c.in-Some-Err.fault).evicted }) (sym c.refusal_out.ensures.kept),
    )
