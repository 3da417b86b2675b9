use Rattle.std.proofs.Common.{ℕ, List, sym, subst, inl, inr}
use Rattle.tier_model.specs.declared.event.Action.TheVariants.{Piece}
use Rattle.tier_calls.specs.Answers.{IsAnsweredAlways}
use Rattle.tier_calls.specs.Arguments.{is_set}
use Rattle.tier_calls.proofs.held.TierHandle.piece.Goals as goal

pub returns-in-Ok : goal.returns-in-Ok
returns-in-Ok c = inr (
  sym c.if-is_too_large.ensures,
  inl (subst (λ (b : List ℕ). IsAnsweredAlways c.args.self.now (Piece c.args.id b (is_set c.args.last)) c.piece_by.result c.piece_by.new.self) c.in-Ok.ensures c.piece_by.ensures),
)
