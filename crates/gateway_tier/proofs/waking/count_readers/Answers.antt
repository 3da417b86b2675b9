use Rattle.std.proofs.Common.{◌≡◌, ◌<◌, ◌+◌, ap, sym, ◌∙◌, length, arith}
use Rattle.std.specs.Prelude.{unwrap_or}
use Rattle.gateway_exchanges.specs.Tables.{numbers_at}
use Rattle.gateway_tier.specs.Roles.{plays}
use Rattle.gateway_tier.specs.declared.waking.Role.TheVariants.{Lacks}
use Rattle.gateway_tier.proofs.Walks.{counts_next, passes_next}
use Rattle.gateway_tier.proofs.waking.count_readers.Goals as goal
use Rattle.gateway_tier.proofs.waking.count_readers.Goals.{then-plays, else-plays}

pub loop-place-preserved : goal.loop-place-preserved
loop-place-preserved c =
    let within : c.loop-place.place < length (numbers_at c.args.key.now c.args.g.now.table) = omega (arith, c.count_at-place-end.ensures) in
    let y : c.unwrap_or-y.result ≡ _ = c.unwrap_or-y.ensures ∙ ap (λ o. unwrap_or o 0) c.number_at.ensures in
    elim c.if-plays.branch [
      | then-plays w ↦ rw w.count-is record {
        counted = ap (λ n. n + 1) c.loop-place.invariant.counted
            ∙ sym (counts_next (plays (Lacks c.args.x) c.args.key.now c.args.g.now.table) _ c.loop-place.place c.unwrap_or-y.result within y (sym c.plays.ensures ∙ w.if-plays.true));
        within = omega arith;
      }
      | else-plays w ↦ rw w.count-is record {
        counted = c.loop-place.invariant.counted
            ∙ sym (ap length (passes_next (plays (Lacks c.args.x) c.args.key.now c.args.g.now.table) _ c.loop-place.place c.unwrap_or-y.result within y (sym c.plays.ensures ∙ w.if-plays.false)));
        within = omega arith;
      }
    ]
