use Rattle.std.proofs.Common.{ap, sym, ◌∙◌}
use Rattle.std.specs.Prelude.{option_copied}
use Rattle.gateway_exchanges.specs.declared.exchange.Exchange.{Exchange}
use Rattle.gateway_state.specs.declared.state.Gateway.{Gateway}
use Rattle.gateway_exchanges.specs.Tables.{with_exchange}
use Rattle.gateway_tier.specs.Purges.{IsPurged}
use Rattle.gateway_tier.proofs.Changed.{changed_at}
use Rattle.gateway_tier.proofs.purging.purge_at.Goals as goal

pub returns-clause-purged : goal.returns-clause-purged
returns-clause-purged c =
    let purged : IsPurged (option_copied c.args.key) c.args.by c.in-Some.e.value c.purge_one-outcome.new.e = rw c.deref_mut.ensures.value at c.purge_one-outcome.ensures.purged in
    changed_at (IsPurged (option_copied c.args.key) c.args.by) c.args.y c.args.g.now.table c.take.new.self _ c.in-Some.e.value c.purge_one-outcome.new.e (sym c.in-Some.ensures.taken)
    (ap (λ (z : Exchange). z.x) purged.rest ∙ c.in-Some.ensures.numbered) c.take.ensures.left purged
    (c.put_back.ensures ∙ ap (λ (g : Gateway). with_exchange c.purge_one-outcome.new.e g.table) c.purge_one-outcome.ensures.rest)
