-- Why an ask is refused.
use Rattle.std.specs.Prelude.{◌≡◌, ◌≢◌, ◌⊎◌, ℕ, ◌+◌, ◌*◌, ◌<◌, ◌≤◌, ◌^◌, List, length}
use Rattle.curve_heights.specs.declared.fault.HeightFault.{HeightFault}
use Rattle.curve_heights.specs.declared.fault.HeightFault.TheVariants.{Memory, TooHeavy, TooMany}
use Rattle.curve_heights.specs.declared.place.Place.{Place}
use Rattle.curve_heights.specs.Places.{asked, all_sizes}
use Rattle.curve_heights.specs.Slots.{nobody}

-- entries and holes are too heavy once an entry has taken its weight from the holes
abbrev pub IsTooHeavy : ℕ → ℕ → List Place → Type 0
IsTooHeavy e w places = 2 ^ 64 ≤ all_sizes (asked e w places)

-- so many entries have no new slots: four an entry and 64
abbrev pub AreTooMany : ℕ → Type 0
AreTooMany n = nobody ≤ 4 * n + 64

-- why so many entries get no new slots
abbrev pub IsNoSlot : ℕ → HeightFault → Type 0
IsNoSlot n Memory = Unit {0}
IsNoSlot n TooHeavy = ⊥
IsNoSlot n TooMany = AreTooMany n

-- Why an entry isn't put first. Weights come first, then the entry's number; memory is said only where neither is at fault.
abbrev pub IsAskFault : ℕ → ℕ → List Place → HeightFault → Type 0
IsAskFault e w places Memory = (all_sizes (asked e w places) < 2 ^ 64) × (e ≢ nobody)
IsAskFault e w places TooHeavy = IsTooHeavy e w places
IsAskFault e w places TooMany = (all_sizes (asked e w places) < 2 ^ 64) × ((e ≡ nobody) ⊎ AreTooMany (length places))
