use Rattle.std.proofs.Common.{inl}
use Rattle.tier_calls.proofs.AnswerLaws.{answered-by}
use Rattle.tier_calls.proofs.held.TierHandle.take.Goals as goal

pub returns-in-Some : goal.returns-in-Some
returns-in-Some c = inl (
  c.in-Some.outcome,
  answered-by c.args.self.now (record { moment = c.args.moment; action = c.args.action }) c.in-Some.outcome c.tell.result c.step.new.self c.step.new.rng c.tell.new.self
      c.in-Some.ensures.some c.tell.ensures.told c.tell.ensures.kept,
)
