use Rattle.std.proofs.Common.{rules, ◌≡◌, ◌<◌, ap, ◌∙◌, length, arith, ◌∷◌, []}
use Rattle.std.specs.Prelude.{unwrap_or, slice_get, Some}
use Rattle.gateway_exchanges.specs.Tables.{numbers_at, numbers_of}
use Rattle.gateway_tier.specs.Notices.{IsToldAt}
use Rattle.gateway_tier.proofs.Walks.{next_number}
use Rattle.gateway_tier.proofs.Changed.{changed_next}
use Rattle.gateway_tier.proofs.Told.{told_at_twice}
use Rattle.gateway_tier.proofs.notices.tell_all.Goals as goal

pub loop-place-preserved : goal.loop-place-preserved
loop-place-preserved c =
    let within : c.loop-place.place < length (numbers_at c.args.key.now c.args.g.now.table) = omega (arith, c.count_at-place-end.ensures) in
    let same : numbers_at c.args.key.now c.loop-place.g.table ≡ numbers_at c.args.key.now c.args.g.now.table =
    ap (numbers_of c.args.key.now) c.loop-place.invariant.told.keys
    in
    let y : c.unwrap_or-y.result ≡ unwrap_or (slice_get (numbers_at c.args.key.now c.args.g.now.table) c.loop-place.place) 0 =
    c.unwrap_or-y.ensures ∙ ap (λ o. unwrap_or o 0) c.number_at.ensures ∙ ap (λ ys. unwrap_or (slice_get ys c.loop-place.place) 0) same
    in
    record {
      told = rw (next_number _ c.loop-place.place c.unwrap_or-y.result within y)
          (changed_next (IsToldAt (Some c.args.key.now) c.args.notice.now) (told_at_twice (Some c.args.key.now) c.args.notice.now) _ (c.unwrap_or-y.result ∷ []) _ c.loop-place.g.table _ c.loop-place.invariant.told c.tell_at.ensures.told);
      rest = search rules;
    }
