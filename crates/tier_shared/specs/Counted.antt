-- What a counted tier is, and what one call makes of it.
use Rattle.std.specs.Prelude.{◌≡◌, ℕ, ◌+◌, ◌-◌, ◌^◌, ◌≤◌, List, [], ◌∷◌, length}
use Rattle.rand_core.specs.Stream.{Stream}
use Rattle.tier_model.specs.declared.event.Event.{Event}
use Rattle.tier_model.specs.Calls.{Outcome}
use Rattle.tier_model.specs.State.{State}
use Rattle.tier_single.specs.Takes.{Takes}
use Rattle.tier_recorded.specs.declared.snapshot.Snapshot.{Snapshot}
use Rattle.tier_recorded.specs.Openings.{Opens}

-- a tier, how it began, its generator, and counts: its calls, the passes that it gave, those that were gathered, and the calls that
-- were made with these
pub record CountedState (R : Type 0) : Type 0 where
  pub opening : Snapshot R
  pub tier : State
  pub rng : R
  pub calls : ℕ
  pub passes : ℕ
  pub gathered : ℕ
  pub returned : ℕ

-- some events, as many as the calls, lead from the opening to the tier, with the generator's words from s to rest
pub record IsCounted {R : Type 0} (n : ℕ) (a : CountedState R) (s rest : Stream) : Type 0 where
  pub events : List Event
  pub outcomes : List Outcome
  pub first : State
  pub count : length events ≡ a.calls
  pub opens : Opens n a.opening first
  pub takes : Takes first s events outcomes a.tier rest

-- the tier took the event, with the words from s to rest, and there is one call more; nothing else changed
pub record Counts {R : Type 0} (old : CountedState R) (s : Stream) (event : Event) (o : Outcome) (new : CountedState R) (rest : Stream) : Type 0 where
  pub takes : Takes old.tier s (event ∷ []) (o ∷ []) new.tier rest
  pub others : new ≡ record old { tier = new.tier; rng = new.rng; calls = old.calls + 1 }

-- a call was refused: nothing changed, and no greater number of calls can be counted
pub record Refuses {R : Type 0} (old new : CountedState R) : Type 0 where
  pub same : new ≡ old
  pub reason : old.calls ≡ 2 ^ 64 - 1

-- ---- hits, which are some calls or none

-- the tier took these events, with the words from s to rest, and there are as many calls more; nothing else changed
pub record CountsAll {R : Type 0} (old : CountedState R) (s : Stream) (events : List Event) (outcomes : List Outcome) (new : CountedState R) (rest : Stream) : Type 0 where
  pub takes : Takes old.tier s events outcomes new.tier rest
  pub others : new ≡ record old { tier = new.tier; rng = new.rng; calls = old.calls + length events }

-- it wasn't made: nothing changed, and four calls more can't be counted
pub record RefusesHit {R : Type 0} (old new : CountedState R) : Type 0 where
  pub same : new ≡ old
  pub reason : 2 ^ 64 ≤ old.calls + 4
