use Rattle.std.proofs.Common.{inl}
use Rattle.tier_model.specs.declared.event.Action.TheVariants.{Piece}
use Rattle.tier_calls.specs.Answers.{words_of}
use Rattle.tier_calls.proofs.AnswerLaws.{answered-by}
use Rattle.tier_calls.proofs.held.TierHandle.piece_by.Goals as goal

pub returns-in-Some : goal.returns-in-Some
returns-in-Some c = inl (
  c.in-Some.outcome,
  λ t. answered-by c.args.self.now (record { moment = t; action = Piece c.args.id c.args.bytes.now c.args.end }) c.in-Some.outcome c.tell.result c.piece.new.self c.args.self.now.rng c.tell.new.self
      (c.in-Some.ensures.some t (words_of c.args.self.now.rng)) c.tell.ensures.told c.tell.ensures.kept,
)
