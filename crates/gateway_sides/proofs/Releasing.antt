-- What ends at the tier for an exchange ends so for one that is the same there.
use Rattle.std.proofs.Common.{◌≡◌, ◌-◌, ap, subst, ◌∙◌, if◌then◌else◌}
use Rattle.tier_model.specs.Calls.{Outcome}
use Rattle.tier_model.specs.declared.event.Action.{Action}
use Rattle.gateway_rows.specs.Bodies.{is_idle}
use Rattle.gateway_steps.specs.Sides.{capped_sum, release_if}
use Rattle.gateway_steps.specs.declared.state.AtTier.{AtTier}
use Rattle.gateway_steps.specs.declared.state.OriginSide.{OriginSide}
use Rattle.gateway_steps.specs.declared.state.Released.{Released}
use Rattle.gateway_steps.specs.declared.state.State.{State}
use Rattle.gateway_exchanges.specs.declared.exchange.Exchange.{Exchange}
use Rattle.gateway_state.specs.AtTier.{TakesAnytime}
use Rattle.gateway_state.specs.declared.state.Gateway.{Gateway}
use Rattle.gateway_tier.specs.Releases.{flying_with, Releases}

pub released_as : (r r' : Released) (e e' : Exchange) (g g' : Gateway) → r ≡ r' → e'.x ≡ e.x → e'.asks.flying ≡ e.asks.flying → Releases r e' g g' → Releases r' e g g'
released_as r r' e e' g g' k x f h = record {
  gateway = h.gateway
      ∙ ap (λ n. if r.request then record g { tier = g'.tier; flying = capped_sum (g.flying - n) 0 } else g) f
      ∙ ap (λ (q : Released). if q.request then record g { tier = g'.tier; flying = flying_with 0 e g } else g) k;
  dropped = λ t. subst (λ z. (o : Outcome) × TakesAnytime (Action.Drop z) g.tier o g'.tier) x (h.dropped (ap (λ (q : Released). q.request) k ∙ t));
}

-- the same is released
pub release_of_same : (r : Released) (s s' : State) → r ≡ release_if (is_idle s'.origin.phase) s'.tier → s'.origin ≡ s.origin → s'.tier ≡ s.tier
    → r ≡ release_if (is_idle s.origin.phase) s.tier
release_of_same r s s' h o t =
    h ∙ ap (λ (o : OriginSide). release_if (is_idle o.phase) s'.tier) o ∙ ap (λ (t : AtTier). release_if (is_idle s.origin.phase) t) t
