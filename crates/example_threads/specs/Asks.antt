-- Whose call it is.
use Rattle.std.specs.Prelude.{ℕ, ◌+◌, ◌*◌, ◌≤◌, ◌<◌}
use Rattle.example_threads.specs.declared.mix.Ask.{Ask}
use Rattle.example_threads.specs.declared.mix.Ask.TheVariants.{Put, Open, LookUp, Read, Drop}

-- one of a thread's numbers, where each thread has so many
abbrev pub IsWithin : ℕ → ℕ → ℕ → Type 0
IsWithin many thread n = (thread * many ≤ n) × (n < (thread + 1) * many)

-- the key and the request are the thread's own
abbrev pub IsOf : ℕ → Ask → Type 0
IsOf thread (Put key) = IsWithin 1000 thread key
IsOf thread (Open request key) = IsWithin 4294967296 thread request × IsWithin 1000 thread key
IsOf thread (LookUp request) = IsWithin 4294967296 thread request
IsOf thread (Read request) = IsWithin 4294967296 thread request
IsOf thread (Drop request) = IsWithin 4294967296 thread request
