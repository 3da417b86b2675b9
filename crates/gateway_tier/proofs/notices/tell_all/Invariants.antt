use Rattle.std.proofs.Common.{◌≡◌, take}
use Rattle.std.specs.Prelude.{Some}
use Rattle.gateway_exchanges.specs.Tables.{numbers_at}
use Rattle.gateway_tier.specs.Notices.{IsToldAt}
use Rattle.gateway_tier.specs.Walks.{AreChanged}
use Rattle.gateway_tier.proofs.notices.tell_all.Given as goal

abbrev pub invariant-loop-place : goal.invariant-loop-place
invariant-loop-place l = record {
  told : AreChanged (IsToldAt (Some l.key) l.notice) (take l.place (numbers_at l.key l.fn.g.table)) l.fn.g.table l.g.table;
  rest : l.g ≡ record l.fn.g { table = l.g.table };
}
