use Rattle.std.proofs.Common.{rules, ◌≡◌, ◌<◌, ap, ◌∙◌, length, arith, ◌∷◌, []}
use Rattle.std.specs.Prelude.{unwrap_or, slice_get, Some}
use Rattle.gateway_exchanges.specs.Tables.{numbers_at, numbers_of}
use Rattle.gateway_tier.specs.Purges.{IsPurged}
use Rattle.gateway_tier.proofs.Walks.{next_number}
use Rattle.gateway_tier.proofs.Changed.{changed_next}
use Rattle.gateway_tier.proofs.Purged.{purged_twice}
use Rattle.gateway_tier.proofs.purging.purge_exchanges.Goals as goal

pub loop-place-preserved : goal.loop-place-preserved
loop-place-preserved c =
    let within : c.loop-place.place < length (numbers_at c.args.key.now c.args.g.now.table) = omega (arith, c.count_at-place-end.ensures) in
    let same : numbers_at c.args.key.now c.loop-place.g.table ≡ numbers_at c.args.key.now c.args.g.now.table =
    ap (numbers_of c.args.key.now) c.loop-place.invariant.purged.keys
    in
    let y : c.unwrap_or-y.result ≡ unwrap_or (slice_get (numbers_at c.args.key.now c.args.g.now.table) c.loop-place.place) 0 =
    c.unwrap_or-y.ensures ∙ ap (λ o. unwrap_or o 0) c.number_at.ensures ∙ ap (λ ys. unwrap_or (slice_get ys c.loop-place.place) 0) same
    in
    record {
      purged = rw (next_number _ c.loop-place.place c.unwrap_or-y.result within y)
          (changed_next (IsPurged (Some c.args.key.now) c.args.by) (purged_twice (Some c.args.key.now) c.args.by) _ (c.unwrap_or-y.result ∷ []) _ c.loop-place.g.table _ c.loop-place.invariant.purged c.purge_at-purged.ensures.purged);
      reply = search rules;
      rest = search rules;
    }
