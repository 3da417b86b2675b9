-- Who meets a purge twice is as who meets it once.
use Rattle.std.proofs.Common.{◌≡◌, ℕ, Bool, true, false, List, refl, ap, ◌∙◌, if◌then◌else◌}
use Rattle.std.specs.Prelude.{Option, Some, None}
use Rattle.gateway_types.specs.declared.states.Origin.{Origin}
use Rattle.gateway_types.specs.declared.states.Origin.TheVariants.{Idle, AwaitingHead, Storing, Relaying}
use Rattle.gateway_exchanges.specs.declared.exchange.Exchange.{Exchange}
use Rattle.gateway_steps.specs.declared.state.State.{State}
use Rattle.gateway_tier.specs.Purges.{is_later, purged, release_by, IsPurged}
use Rattle.gateway_tier.specs.Roles.{is_meant}

purged_by : (hides : Bool) (by : Option ℕ) (s : State) (later : Bool) (phase : Origin) (permit : Option ℕ) → is_later by s ≡ later → s.origin.phase ≡ phase → s.tier.permit ≡ permit
    → purged hides by (purged hides by s) ≡ purged hides by s
purged_by true by s true phase permit h k m = simp (h, k, m)
purged_by true by s false Idle permit h k m = simp (h, k, m)
purged_by true by s false AwaitingHead None h k m = simp (h, k, m)
purged_by true by s false AwaitingHead (Some since) h k m = simp (h, k, m)
purged_by true by s false Storing permit h k m = simp (h, k, m)
purged_by true by s false Relaying permit h k m = simp (h, k, m)
purged_by false by s true phase permit h k m = simp (h, k, m)
purged_by false by s false Idle permit h k m = simp (h, k, m)
purged_by false by s false AwaitingHead None h k m = simp (h, k, m)
purged_by false by s false AwaitingHead (Some since) h k m = simp (h, k, m)
purged_by false by s false Storing permit h k m = simp (h, k, m)
purged_by false by s false Relaying permit h k m = simp (h, k, m)

released_by : (hides : Bool) (by : Option ℕ) (s : State) (later : Bool) (phase : Origin) (permit : Option ℕ) → is_later by s ≡ later → s.origin.phase ≡ phase → s.tier.permit ≡ permit
    → (release_by hides by (purged hides by s)).request ≡ false
released_by true by s true phase permit h k m = simp (h, k, m)
released_by true by s false Idle permit h k m = simp (h, k, m)
released_by true by s false AwaitingHead None h k m = simp (h, k, m)
released_by true by s false AwaitingHead (Some since) h k m = simp (h, k, m)
released_by true by s false Storing permit h k m = simp (h, k, m)
released_by true by s false Relaying permit h k m = simp (h, k, m)
released_by false by s true phase permit h k m = simp (h, k, m)
released_by false by s false Idle permit h k m = simp (h, k, m)
released_by false by s false AwaitingHead None h k m = simp (h, k, m)
released_by false by s false AwaitingHead (Some since) h k m = simp (h, k, m)
released_by false by s false Storing permit h k m = simp (h, k, m)
released_by false by s false Relaying permit h k m = simp (h, k, m)

pub purged_twice : (key : Option (List ℕ)) (by : Option ℕ) (e e' e'' : Exchange) → IsPurged key by e e' → IsPurged key by e' e'' → IsPurged key by e e''
purged_twice key by e e' e'' h k =
    let same : is_meant key e' ≡ is_meant key e = ap (λ (x : Exchange). is_meant key x) h.rest in
    let s = e.steps.state in
    record {
      state = k.state ∙ ap (λ b. purged b by e'.steps.state) same ∙ ap (purged (is_meant key e) by) h.state
          ∙ purged_by (is_meant key e) by s (is_later by s) s.origin.phase s.tier.permit refl refl refl;
      flying = k.flying
          ∙ ap (λ (b : Bool). if b then 0 else e'.asks.flying) (ap (λ b. (release_by b by e'.steps.state).request) same
          ∙ ap (λ (s : State). (release_by (is_meant key e) by s).request) h.state
          ∙ released_by (is_meant key e) by s (is_later by s) s.origin.phase s.tier.permit refl refl refl)
          ∙ h.flying;
      rest = k.rest ∙ ap (λ (x : Exchange). record x { steps = e''.steps; asks = record x.asks { flying = e''.asks.flying } }) h.rest;
    }
