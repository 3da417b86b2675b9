use Rattle.std.proofs.Common.{◌≡◌, take}
use Rattle.std.specs.Prelude.{Some}
use Rattle.gateway_exchanges.specs.Tables.{numbers_at}
use Rattle.gateway_exchanges.specs.Frames.{HasSameButWakes}
use Rattle.gateway_tier.specs.Purges.{IsPurged}
use Rattle.gateway_tier.specs.Walks.{AreChanged}
use Rattle.gateway_tier.proofs.purging.purge_exchanges.Given as goal

abbrev pub invariant-loop-place : goal.invariant-loop-place
invariant-loop-place l = record {
  purged : AreChanged (IsPurged (Some l.key) l.by) (take l.place (numbers_at l.key l.fn.g.table)) l.fn.g.table l.g.table;
  reply : HasSameButWakes l.fn.out l.out;
  rest : l.g ≡ record l.fn.g { table = l.g.table; tier = l.g.tier; flying = l.g.flying };
}
