use Rattle.std.proofs.Common.{◌≡◌, take}
use Rattle.std.specs.Prelude.{None}
use Rattle.gateway_exchanges.specs.Frames.{HasSameButWakes}
use Rattle.gateway_tier.specs.Purges.{IsPurged}
use Rattle.gateway_tier.specs.Walks.{AreChanged}
use Rattle.gateway.proofs.purges.purge_every.Given as goal

abbrev pub invariant-loop-place : goal.invariant-loop-place
invariant-loop-place l = record {
  purged : AreChanged (IsPurged None None) (take l.place l.numbers) l.fn.g.table l.g.table;
  rest : l.g ≡ record l.fn.g { table = l.g.table; tier = l.g.tier; flying = l.g.flying };
  reply : HasSameButWakes l.fn.out l.out;
}
