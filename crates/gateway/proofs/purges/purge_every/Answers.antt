use Rattle.std.proofs.Common.{rules, ◌≡◌, ◌<◌, ap, subst, length, arith, ◌∷◌, []}
use Rattle.std.specs.Prelude.{None}
use Rattle.gateway_exchanges.specs.Tables.{Exchanges}
use Rattle.gateway_state.specs.declared.state.Gateway.{Gateway}
use Rattle.gateway_tier.specs.Purges.{IsPurged}
use Rattle.gateway_tier.specs.Walks.{AreChanged}
use Rattle.gateway_tier.proofs.Walks.{next_number}
use Rattle.gateway_tier.proofs.Changed.{changed_next}
use Rattle.gateway_tier.proofs.Purged.{purged_twice}
use Rattle.gateway.proofs.purges.purge_every.Goals as goal

pub loop-place-preserved : goal.loop-place-preserved
loop-place-preserved c =
    let within : c.loop-place.place < length c.args.numbers.now = omega arith in
    let hidden : c.hide_at_tier.new.g.table ≡ c.loop-place.g.table = ap (λ (g : Gateway). g.table) c.hide_at_tier.ensures in
    let purged : AreChanged (IsPurged None None) (c.number_at-y.result ∷ []) c.loop-place.g.table c.purge_at-purged.new.g.table =
    subst (λ (t : Exchanges). AreChanged (IsPurged None None) (c.number_at-y.result ∷ []) t c.purge_at-purged.new.g.table) hidden c.purge_at-purged.ensures.purged
    in
    record {
      purged = rw (next_number _ c.loop-place.place c.number_at-y.result within c.number_at-y.ensures)
          (changed_next (IsPurged None None) (purged_twice None None) _ (c.number_at-y.result ∷ []) _ c.loop-place.g.table c.purge_at-purged.new.g.table c.loop-place.invariant.purged purged);
      reply = search rules;
      rest = search rules;
    }
