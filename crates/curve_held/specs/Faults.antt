-- Why a request isn't counted.
use Rattle.std.specs.Prelude.{◌≡◌, ◌⊎◌, ℕ, ◌+◌, ◌-◌, ◌≤◌, ◌^◌, Bool, false, slice_index_or}
use Rattle.curve_sizes.specs.declared.fault.CurveFault.{CurveFault}
use Rattle.curve_sizes.specs.declared.fault.CurveFault.TheVariants.{Memory, TooHeavy, TooMany}
use Rattle.curve_held.specs.declared.filling.Filling.{Filling}

-- an entry that wasn't there would make those that are too heavy, or too many
abbrev pub IsAddFault : Bool → ℕ → Filling → CurveFault → Type 0
IsAddFault was_there weight f Memory = ⊥
IsAddFault was_there weight f TooHeavy = (was_there ≡ false) × (2 ^ 64 ≤ f.weight + weight)
IsAddFault was_there weight f TooMany = (was_there ≡ false) × (f.number ≡ 2 ^ 64 - 1)

-- Why a request for an entry of that weight isn't counted. Memory may run out whatever else there is.
abbrev pub IsFillingFault : Filling → ℕ → ℕ → CurveFault → Type 0
IsFillingFault f entry weight Memory = Unit {0}
IsFillingFault f entry weight TooHeavy = (slice_index_or f.there.items entry false ≡ false) × (2 ^ 64 ≤ f.weight + weight)
IsFillingFault f entry weight TooMany = (f.asks ≡ 2 ^ 64 - 1) ⊎ ((slice_index_or f.there.items entry false ≡ false) × (f.number ≡ 2 ^ 64 - 1))

-- why so many entries aren't gone over: each has a number of 32 bits
abbrev pub IsWalkFault : ℕ → CurveFault → Type 0
IsWalkFault n Memory = Unit {0}
IsWalkFault n TooHeavy = ⊥
IsWalkFault n TooMany = 2 ^ 32 ≤ n
