use Rattle.std.proofs.Common.{inl, None}
use Rattle.tier_model.specs.declared.event.Action.TheVariants.{Begin}
use Rattle.tier_model.specs.NoStore.{no_store_head}
use Rattle.tier_calls.specs.Answers.{words_of}
use Rattle.tier_calls.proofs.AnswerLaws.{answered-by}
use Rattle.tier_calls.proofs.held.TierHandle.give_up.Goals as goal

pub returns-in-Some : goal.returns-in-Some
returns-in-Some c = inl (
  c.in-Some.outcome,
  λ t. answered-by c.args.self.now (record { moment = t; action = Begin c.args.id no_store_head None }) c.in-Some.outcome c.tell.result c.give_up.new.self c.args.self.now.rng c.tell.new.self
      (c.in-Some.ensures.some t (words_of c.args.self.now.rng)) c.tell.ensures.told c.tell.ensures.kept,
)
