use Rattle.std.proofs.Common.{◌≡◌, take}
use Rattle.std.specs.Prelude.{None}
use Rattle.gateway_tier.specs.Notices.{IsToldAt}
use Rattle.gateway_tier.specs.Walks.{AreChanged}
use Rattle.gateway_tier.proofs.notices.tell_each.Given as goal

abbrev pub invariant-loop-y : goal.invariant-loop-y
invariant-loop-y l = record {
  told : AreChanged (IsToldAt None l.notice) (take l.y-index l.numbers) l.fn.g.table l.g.table;
  rest : l.g ≡ record l.fn.g { table = l.g.table };
}
