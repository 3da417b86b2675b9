use Rattle.std.proofs.Common.{◌∙◌, ap, refl}
use Rattle.std.specs.Prelude.{is_none}
use Rattle.request_predictor.specs.Reasons.{marked}
use Rattle.request_predictor.proofs.ListLaws.{none_if, looked_up, written_back}
use Rattle.request_predictor.proofs.predictor.Predictor.put_first.Goals as goal

pub returns-clause-answer : goal.returns-clause-answer
returns-clause-answer g c =
    rw (← c.self.view_is) (none_if c.in_ok-old.old c.is_none.result c.is_none.ensures ∙ ap is_none (c.in_ok-old.ensures.old ∙ looked_up g.row.N c.list_number.result c.args.key c.args.key c.self.inside.lists.items c.self.inside.skipped c.index_mut-list.result.now refl c.list_number.ensures.value c.list_number.ensures.below c.self.invariant.1 c.index_mut-list.ensures.value))

pub returns-clause-change : goal.returns-clause-change
returns-clause-change g c =
    rw (← c.self.view_is) (written_back g.row.N c.list_number.result c.args.key c.args.key c.self.inside.lists.items c.self.inside.skipped c.index_mut-list.result.now c.put.new.self (λ k. marked k c.args.reason) refl c.list_number.ensures.value c.list_number.ensures.below c.self.invariant.1 c.index_mut-list.ensures.value c.in_ok-old.ensures.entries)
