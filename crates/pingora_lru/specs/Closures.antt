-- What is known of closures that a call was given: under a lock, without knowing the shard's rows, and of a shard.
use Rattle.std.specs.Prelude.{◌≡◌, ℕ, ⊤, max, List, ◌∷◌, Option}
use Rattle.std.specs.Borrow.{MutBor}
use Rattle.std.specs.Fn.{Once}
use Rattle.lru_core.specs.declared.rows.Row.{Row}
use Rattle.lru_core.specs.declared.lru_unit.fault.LruFault.{LruFault}
use Rattle.lru_core.specs.Rows.{a_row}
use Rattle.lru_core.specs.Updates.{Updates, IsRefused}

-- f was called with some data of weight v
abbrev pub WasCalled : {F T : Type 0} → Once F (MutBor T × (ℕ × ⊤)) (ℕ × (MutBor T × ⊤)) → F → ℕ → Type 0
WasCalled {F} {T} g f v = (d : T) × (d' : T) × (w : ℕ) × Updates g f d v d' w

-- the data that were made are at the front under key k, with the weight that was made, but 1 at least
abbrev pub WasAdmitted : {T : Type 0} → (T × ℕ → Type 0) → ℕ → ℕ → List (Row T) → List (Row T) → Type 0
WasAdmitted {T} made k w old new = (d : T) × (v : ℕ) × made (d, v) × (w ≡ max 1 v) × (new ≡ a_row k d w ∷ old)

-- a shard of these rows refuses the data and the weight that were made
abbrev pub WasRefused : {T : Type 0} → (T × ℕ → Type 0) → List (Row T) → ℕ → LruFault (Option T) → Type 0
WasRefused {T} made rows bound fault = (d : T) × (w : ℕ) × made (d, w) × IsRefused d w rows bound fault
