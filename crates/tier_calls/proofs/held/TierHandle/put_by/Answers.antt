use Rattle.std.proofs.Common.{ℕ, List, ap, ◌∙◌, subst, inl}
use Rattle.tier_model.specs.declared.event.Action.{Action}
use Rattle.tier_model.specs.declared.event.Action.TheVariants.{Put}
use Rattle.tier_calls.specs.Answers.{IsAnswered}
use Rattle.tier_calls.proofs.held.TierHandle.put_by.Goals as goal

pub returns-in-Ok : goal.returns-in-Ok
returns-in-Ok c =
    inl (subst (λ (a : Action). IsAnswered c.args.self.now (record { moment = c.args.moment; action = a }) c.take.result c.take.new.self)
    (c.puts.ensures ∙ ap (λ (p : List (List ℕ)). Put c.args.key p c.args.given) c.in-Ok.ensures) c.take.ensures)
