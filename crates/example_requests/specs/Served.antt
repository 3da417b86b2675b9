-- What a request did.
use Rattle.std.specs.Prelude.{◌≡◌, ℕ, true, ⊤, List, Option, Some, None}
use Rattle.cache_store.specs.Answers.{Look, in_flight, finished}
use Rattle.request_phases.specs.declared.phase.CachePhase.{CachePhase}
use Rattle.request_phases.specs.declared.phase.CachePhase.TheVariants.{Hit}
use Rattle.request_phases.specs.Phases.{is_write_phase}
use Rattle.example_requests.specs.declared.Served.{Served}
use Rattle.example_requests.specs.declared.Served.TheVariants.{Read, Written}

-- these are the bytes of a finished body; of a write in flight nothing is said
abbrev pub IsBodyOf : Option Look → List ℕ → Type 0
IsBodyOf None bytes = ⊥
IsBodyOf (Some (finished x)) bytes = bytes ≡ x.bytes
IsBodyOf (Some (in_flight x)) bytes = ⊤

-- by what the store showed: a body was read in `Hit`, and one was written in `Miss` or `Expired`
abbrev pub IsServed : Option Look → Served → CachePhase → Type 0
IsServed look (Read body) phase = (phase ≡ Hit) × IsBodyOf look body.items
IsServed look (Written length) phase = is_write_phase phase ≡ true
