-- A look-up as stale is one at the last moment, or is refused.
use Rattle.std.proofs.Common.{◌≡◌, ℕ, refl, sym, ◌∙◌, inl, inr, true, false, Some, None, Option, List, [], ◌∷◌}
use Rattle.std.specs.Prelude.{◌≢◌, Bool, option_map, Result, Err, IfOk}
use Rattle.std.specs.FinMap.{get}
use Rattle.rand_core.specs.Stream.{Stream}
use Rattle.tier_model.specs.State.{State}
use Rattle.tier_model.specs.declared.event.Action.TheVariants.{LookUp}
use Rattle.tier_model.specs.declared.event.Answer.{Answer}
use Rattle.tier_model.specs.declared.event.TierFault.{TierFault}
use Rattle.tier_model.specs.declared.event.TierFault.TheVariants as fault
use Rattle.tier_single.specs.GivesUp.{last_moment}
use Rattle.tier_single.specs.Hits.{FindsHead, answer_found, at_moment, meta_of}
use Rattle.tier_single.specs.Takes.{Takes}
use Rattle.tier_single.specs.declared.found.FoundMeta.{FoundMeta}
use Rattle.tier_calls.specs.Hits.{LooksUpStale}
use Rattle.tier_calls.specs.Tiers.{state_of}
use Rattle.tier_calls.specs.declared.shards.Shards.{Shards}

abbrev asks_in : State → ℕ → Option Bool
asks_in a id = option_map (λ q. q.asks) (get a.requests id)

pub stale-of : (old new : Shards) (a b : State) (id : ℕ) (r : Result (Answer × Option FoundMeta) TierFault) → state_of old ≡ Some a → state_of new ≡ Some b → (b ≡ a → new ≡ old)
    → (asks_in a id ≡ Some true → (r ≡ Err fault.WrongPhase) × (b ≡ a))
    → (asks_in a id ≢ Some true → (s : Stream) → Takes a s (at_moment last_moment (LookUp id) ∷ []) (answer_found r ∷ []) b s)
    → IfOk r (λ x. FindsHead a id (option_map meta_of x.1)) → LooksUpStale old id r new
stale-of old new a b id r was is same locked takes head = by_asks (asks_in a id) refl
  where
    by_asks : (v : Option Bool) → asks_in a id ≡ v → LooksUpStale old id r new
    by_asks (Some true) e = let l = locked e in inr (a, was, e, l.0, same l.1)
    by_asks (Some false) e = inl (a, b, was, is, takes (λ x. cc (e, x)), head)
    by_asks None e = inl (a, b, was, is, takes (λ x. cc (e, x)), head)
