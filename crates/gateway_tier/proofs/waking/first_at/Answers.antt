use Rattle.std.proofs.Common.{◌<◌, ap, sym, ◌∙◌, length, arith}
use Rattle.std.specs.Prelude.{unwrap_or}
use Rattle.gateway_exchanges.specs.Tables.{numbers_at}
use Rattle.gateway_tier.specs.Roles.{plays}
use Rattle.gateway_tier.proofs.Walks.{none_next, first_next}
use Rattle.gateway_tier.proofs.waking.first_at.Goals as goal

pub returns-then-plays : goal.returns-then-plays
returns-then-plays c =
    let within : c.loop-place.place < length (numbers_at c.args.key.now c.args.g.now.table) = omega (arith, c.count_at-place-end.ensures) in
    sym (first_next (plays c.args.role.now c.args.key.now c.args.g.now.table) _ c.loop-place.place c.unwrap_or-y.result within
    (c.unwrap_or-y.ensures ∙ ap (λ o. unwrap_or o 0) c.number_at.ensures) (sym c.plays.ensures ∙ c.if-plays.true) c.loop-place.invariant)

pub loop-place-preserved : goal.loop-place-preserved
loop-place-preserved c =
    let within : c.loop-place.place < length (numbers_at c.args.key.now c.args.g.now.table) = omega (arith, c.count_at-place-end.ensures) in
    none_next (plays c.args.role.now c.args.key.now c.args.g.now.table) _ c.loop-place.place c.unwrap_or-y.result within
    (c.unwrap_or-y.ensures ∙ ap (λ o. unwrap_or o 0) c.number_at.ensures) (sym c.plays.ensures ∙ c.if-plays.false) c.loop-place.invariant
