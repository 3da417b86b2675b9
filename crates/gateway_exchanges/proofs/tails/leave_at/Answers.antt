use Rattle.std.proofs.Common.{◌∙◌, sym, ap}
use Rattle.tier_model.proofs.Tables.{get-table}
use Rattle.gateway_exchanges.specs.Tails.{left, gone_at}
use Rattle.gateway_exchanges.proofs.TailLaws.{changed-there, changed-nowhere}
use Rattle.gateway_exchanges.proofs.tails.leave_at.Goals as goal

pub returns-in-Some-clause-gone : goal.returns-in-Some-clause-gone
returns-in-Some-clause-gone c = c.leave_tail.ensures.gone ∙ sym (ap gone_at (get-table c.args.open.now.entries c.args.x ∙ sym c.in-Some.ensures.value))

pub returns-in-Some-clause-left : goal.returns-in-Some-clause-left
returns-in-Some-clause-left c =
    changed-there c.args.open.now.entries _ c.args.x left c.in-Some.tail.now c.leave_tail.new.tail (c.get_mut.follows.holds c.leave_tail.new.tail).0 (sym c.in-Some.ensures.value) c.leave_tail.ensures.left

pub returns-in-None-clause-gone : goal.returns-in-None-clause-gone
returns-in-None-clause-gone c = sym (ap gone_at (get-table c.args.open.now.entries c.args.x ∙ sym c.in-None.ensures.value))

pub returns-in-None-clause-left : goal.returns-in-None-clause-left
returns-in-None-clause-left c = rw c.get_mut.follows.holds-at-none (changed-nowhere c.args.open.now.entries c.args.x left (sym c.in-None.ensures.value))
