use Rattle.std.proofs.Common.{rules, ap, subst}
use Rattle.std.specs.Prelude.{None}
use Rattle.gateway_exchanges.specs.Tables.{Exchanges}
use Rattle.gateway_state.specs.declared.state.Gateway.{Gateway}
use Rattle.gateway_tier.specs.Purges.{IsPurged}
use Rattle.gateway_tier.specs.Walks.{AreChanged}
use Rattle.gateway.proofs.Everyone.{all_purged}
use Rattle.gateway.proofs.purges.purge_open.Goals as goal

pub returns-clause-purged : goal.returns-clause-purged
returns-clause-purged c = record {
  floor = search rules;
  each = all_purged c.args.numbers.now c.args.g.now.table c.purge_every-purged.new.g.table c.requires
      (subst (λ (t : Exchanges). AreChanged (IsPurged None None) c.args.numbers.now t c.purge_every-purged.new.g.table) (ap (λ (g : Gateway). g.table) c.raise_floor.ensures) c.purge_every-purged.ensures.purged);
  predicted = search rules;
  rest = search rules;
}
