use Rattle.std.proofs.Common.{rules, ◌≡◌, ◌<◌, ap, sym, ◌∙◌, length, arith}
use Rattle.std.specs.Prelude.{unwrap_or, option_copied}
use Rattle.gateway_exchanges.specs.Tables.{numbers_at}
use Rattle.gateway_exchanges.specs.Replies.{reply_of, with_wake}
use Rattle.gateway_tier.specs.Roles.{plays, with_own, with_wakes}
use Rattle.gateway_tier.proofs.Walks.{wakes_next, passes_next}
use Rattle.gateway_tier.proofs.waking.wake_all.Goals as goal
use Rattle.gateway_tier.proofs.waking.wake_all.Goals.{then-plays_with+in_ok-wake, else-plays_with}

pub loop-place-preserved : goal.loop-place-preserved
loop-place-preserved c =
    let within : c.loop-place.place < length (numbers_at c.args.key.now c.args.g.now.table) = omega (arith, c.count_at-place-end.ensures) in
    let y : c.unwrap_or-y.result ≡ _ = c.unwrap_or-y.ensures ∙ ap (λ o. unwrap_or o 0) c.number_at.ensures in
    elim c.if-plays_with.branch [
      | then-plays_with+in_ok-wake w ↦ rw w.out-is record {
        woken = w.in_ok-wake.ensures.ok ∙ ap (with_wake c.unwrap_or-y.result) c.loop-place.invariant.woken
            ∙ sym (wakes_next _ _ c.loop-place.place c.unwrap_or-y.result (reply_of c.args.out.now) within y (sym c.plays_with.ensures ∙ w.if-plays_with.true));
        rest = search rules;
      }
      | else-plays_with w ↦ rw w.out-is record {
        woken = c.loop-place.invariant.woken ∙ ap (λ ys. with_wakes ys (reply_of c.args.out.now))
            (sym (passes_next (plays c.args.role.now c.args.key.now (with_own (option_copied c.args.own) c.args.g.now.table)) _ c.loop-place.place c.unwrap_or-y.result within y (sym c.plays_with.ensures ∙ w.if-plays_with.false)));
        rest = c.loop-place.invariant.rest;
      }
    ]
