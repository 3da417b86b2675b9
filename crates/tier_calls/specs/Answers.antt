-- How an event is answered.
use Rattle.std.specs.Prelude.{◌≡◌, ◌⊎◌, ℕ, List, [], Option, Some, None}
use Rattle.rand_core.specs.Stream.{Stream}
use Rattle.rand_core.specs.Steps.{stream_of, steps_u64_low}
use Rattle.rand_pcg.specs.Lcg.{Lcg}
use Rattle.rand_pcg.specs.Pcg.{pcg64}
use Rattle.cache_words.specs.Time.{MomentValue}
use Rattle.tier_model.specs.declared.event.Action.{Action}
use Rattle.tier_model.specs.declared.event.Event.{Event}
use Rattle.tier_model.specs.Calls.{Outcome}
use Rattle.tier_calls.specs.Arguments.{moment_at}
use Rattle.tier_calls.specs.Told.{plain, told_of, evicted_in}
use Rattle.tier_calls.specs.Tiers.{state_of, Steps}
use Rattle.tier_calls.specs.declared.held.TierHandle.{TierHandle}
use Rattle.tier_calls.specs.declared.structs.CallAnswer.{CallAnswer}

-- the words of a generator from its state on
abbrev pub words_of : Lcg → Stream
words_of state = stream_of (steps_u64_low pcg64) state

-- the call was refused for this reason, and nothing was done
abbrev pub IsRefused : ℕ → TierHandle → CallAnswer → TierHandle → Type 0
IsRefused reason h out h' = (out ≡ plain reason) × (h' ≡ h)

-- no tier is there
abbrev pub IsWithout : TierHandle → CallAnswer → TierHandle → Type 0
IsWithout h out h' = (state_of h.tier ≡ None) × IsRefused 20 h out h'

-- the tier took an event: what is told is its outcome's, and so are the entries that are kept to be named; words are drawn from the held generator alone
abbrev pub IsAnsweredBy : TierHandle → Event → Outcome → CallAnswer → TierHandle → Type 0
IsAnsweredBy h event outcome out h' =
    Steps h.tier (words_of h.rng) event outcome h'.tier (words_of h'.rng)
    × (out ≡ told_of outcome) × (h' ≡ record h { tier = h'.tier; rng = h'.rng; evicted = evicted_in outcome })

abbrev pub IsAnswered : TierHandle → Event → CallAnswer → TierHandle → Type 0
IsAnswered h event out h' = ((outcome : Outcome) × IsAnsweredBy h event outcome out h') ⊎ IsWithout h out h'

-- the same of an event that looks at no moment: of each moment the tier answers alike
abbrev pub IsAnsweredAlways : TierHandle → Action → CallAnswer → TierHandle → Type 0
IsAnsweredAlways h action out h' =
    ((outcome : Outcome) × ((t : MomentValue) → IsAnsweredBy h (record { moment = t; action = action }) outcome out h')) ⊎ IsWithout h out h'

-- an event at the moment of these numbers, if there is one
abbrev pub IsAnsweredAt : TierHandle → ℕ → ℕ → Action → CallAnswer → TierHandle → Type 0
IsAnsweredAt h seconds nanoseconds action out h' =
    ((t : MomentValue) × (moment_at seconds nanoseconds ≡ Some t) × IsAnswered h (record { moment = t; action = action }) out h')
    ⊎ ((moment_at seconds nanoseconds ≡ None) × IsRefused 20 h out h')
