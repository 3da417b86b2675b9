-- The promise of a tier whose calls are counted.
use Rattle.std.proofs.Common.{◌≡◌, ℕ, ◌+◌, List, [], ◌∷◌, length, refl, sym, subst, arith, ◌∙◌}
use Rattle.rand_core.specs.Stream.{Stream}
use Rattle.cache_evict.specs.Managed.{IsSharded}
use Rattle.tier_model.specs.declared.event.Event.{Event}
use Rattle.tier_model.specs.Calls.{Call, Outcome, AreCallsOf, extended}
use Rattle.tier_model.specs.State.{State, shards_of}
use Rattle.tier_model.specs.Past.{HasPast}
use Rattle.tier_model.specs.Started.{opening_of}
use Rattle.tier_model.proofs.StartedLaws.{opening_past}
use Rattle.tier_promise.specs.Promise.{Promise}
use Rattle.tier_recorded.specs.Openings.{Opens}
use Rattle.tier_shared.specs.Counted.{CountedState, IsCounted}

-- each event is one call
calls-as-many : (es : List Event) (os : List Outcome) (cs : List Call) → AreCallsOf es os cs → length cs ≡ length es
calls-as-many [] [] [] are = refl
calls-as-many (e ∷ es) (o ∷ os) (c ∷ cs) are = (let more = calls-as-many es os cs are.2 in omega (arith, more))
calls-as-many [] [] (c ∷ cs) are = absurd are
calls-as-many [] (o ∷ os) cs are = absurd are
calls-as-many (e ∷ es) [] cs are = absurd are
calls-as-many (e ∷ es) (o ∷ os) [] are = absurd are

pub counted-promise : {R : Type 0} (n : ℕ) (a : CountedState R) (s rest : Stream) → IsCounted n a s rest
    → (first : State) × Opens n a.opening first × ((calls : List Call) × (length calls ≡ a.calls) × HasPast (opening_of first) a.tier (extended [] calls)
    × Promise (opening_of first).settings ((opening_of first).first + (opening_of first).first_core) (opening_of first).loaded (extended [] calls))
counted-promise n a s rest is =
    let sharded : IsSharded (shards_of is.first) is.first.managed = subst (λ (k : ℕ). IsSharded k is.first.managed) (sym is.opens.sharded.count) is.opens.sharded in
    let many = calls-as-many is.events is.outcomes is.takes.calls is.takes.are_of ∙ is.count in
    let begun = opening_past is.first is.opens.only_order sharded in
    (is.first, is.opens, (is.takes.calls, many, is.takes.past (opening_of is.first) [] begun, is.takes.promise (opening_of is.first) [] begun))
