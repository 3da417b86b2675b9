use Rattle.std.proofs.Common.{inl}
use Rattle.tier_model.specs.declared.event.Action.TheVariants.{Finish}
use Rattle.tier_calls.proofs.AnswerLaws.{answered-by}
use Rattle.tier_calls.proofs.held.TierHandle.finish.Goals as goal

pub returns-in-Some : goal.returns-in-Some
returns-in-Some c = inl (
  c.in-Some.outcome,
  λ t. answered-by c.args.self.now (record { moment = t; action = Finish c.args.id }) c.in-Some.outcome c.tell.result c.finish.new.self c.finish.new.rng c.tell.new.self
      (c.in-Some.ensures.some t) c.tell.ensures.told c.tell.ensures.kept,
)
