-- What is so of some tier that is the replay of a history.
use Rattle.std.specs.Prelude.{ℕ, List}
use Rattle.rand_core.specs.Stream.{Stream}
use Rattle.tier_model.specs.State.{State}
use Rattle.tier_recorded.specs.declared.history.Record.{Record}
use Rattle.tier_recorded.specs.declared.snapshot.Snapshot.{Snapshot}
use Rattle.tier_recorded.specs.Histories.{IsReplay}
use Rattle.tier_recorded.specs.Openings.{Opens}

-- from an opening of n shards, with the words of its generator, some history leads to a tier of which that is so
abbrev pub OfSomeReplay : {R : Type 0} → ℕ → (R → Stream) → (State → Type 0) → Type 0
OfSomeReplay {R} n words P =
    (opening : Snapshot R) × (history : List Record) × (tier : State) × (first : State) × Opens n opening first × ((rest : Stream) × IsReplay first (words opening.rng) history tier rest) × P tier
