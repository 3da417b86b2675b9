use Rattle.std.proofs.Common.{◌∙◌, sym, ap}
use Rattle.gateway_exchanges.specs.Tails.{left, left_by}
use Rattle.gateway_exchanges.specs.TailMaps.{tails_of}
use Rattle.gateway_exchanges.proofs.TailLaws.{left-removed}
use Rattle.gateway_exchanges.proofs.tails.Tails.leave.Goals as goal

pub returns-in-Some-clause-left : goal.returns-in-Some-clause-left
returns-in-Some-clause-left c =
    rw (← c.self.view_is, c.remove_tail.ensures, c.leave_at.ensures.left)
    (left-removed (tails_of c.self.inside.open) c.args.x left ∙ ap (λ o. left_by c.args.x o (tails_of c.self.inside.open)) (sym c.in-Some.is ∙ c.leave_at.ensures.gone))
