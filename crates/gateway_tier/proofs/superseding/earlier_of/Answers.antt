use Rattle.std.proofs.Common.{◌≡◌, ◌<◌, ◌++◌, ◌∷◌, [], ap, sym, ◌∙◌, length, arith}
use Rattle.std.specs.Prelude.{unwrap_or}
use Rattle.gateway_exchanges.specs.Tables.{numbers_at}
use Rattle.gateway_rules.specs.Options.{options_of}
use Rattle.gateway_tier.specs.Superseding.{is_earlier}
use Rattle.gateway_tier.proofs.Walks.{keeps_next, passes_next}
use Rattle.gateway_tier.proofs.superseding.earlier_of.Goals as goal
use Rattle.gateway_tier.proofs.superseding.earlier_of.Goals.{then-branch+in_ok-push, else-branch}

pub loop-at-preserved : goal.loop-at-preserved
loop-at-preserved c =
    let xs = numbers_at c.args.first.now c.args.g.now.table in
    let p = is_earlier (options_of c.args.g.now.rules) c.args.e.now c.args.place.now c.args.g.now.table in
    let within : c.loop-at.at < length xs = omega (arith, c.count_at-at-end.ensures) in
    let y : c.unwrap_or-y.result ≡ _ = c.unwrap_or-y.ensures ∙ ap (λ o. unwrap_or o 0) c.number_at.ensures in
    elim c.if-branch.branch [
      | then-branch+in_ok-push w ↦
          rw w.numbers-is (w.in_ok-push.ensures.items ∙ ap (λ ys. ys ++ (c.unwrap_or-y.result ∷ [])) c.loop-at.invariant
          ∙ sym (keeps_next p xs c.loop-at.at c.unwrap_or-y.result within y (sym c.in_ok-is_earlier.ensures ∙ w.if-branch.true)))
      | else-branch w ↦
          rw w.numbers-is (c.loop-at.invariant ∙ sym (passes_next p xs c.loop-at.at c.unwrap_or-y.result within y (sym c.in_ok-is_earlier.ensures ∙ w.if-branch.false)))
    ]
