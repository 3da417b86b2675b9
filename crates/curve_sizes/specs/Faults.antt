-- Why a request isn't counted.
use Rattle.std.specs.Prelude.{◌≡◌, ◌≢◌, ◌⊎◌, ℕ, ◌-◌, ◌==◌, ◌<◌, ◌≤◌, ◌^◌, if◌then◌else◌, List, length, slice_index, Option, Some, None}
use Rattle.curve_heights.specs.declared.place.Place.{Place}
use Rattle.curve_heights.specs.Places.{asked, all_sizes}
use Rattle.curve_heights.specs.Slots.{nobody}
use Rattle.curve_heights.specs.Faults.{AreTooMany}
use Rattle.curve_sizes.specs.Rows.{HasRoom, HasNoRoom}
use Rattle.curve_sizes.specs.declared.curve.SizeCurve.{SizeCurve}
use Rattle.curve_sizes.specs.declared.watermark.Watermark.{Watermark}
use Rattle.curve_sizes.specs.declared.fault.CurveFault.{CurveFault}
use Rattle.curve_sizes.specs.declared.fault.CurveFault.TheVariants.{Memory, TooHeavy, TooMany}

-- what an entry weighs that is asked for by some weight: what its first request says
abbrev pub own_of : List ℕ → ℕ → ℕ → ℕ
own_of weights e w = if e == length weights then w else slice_index weights e

-- what entries and holes weigh once an entry is asked for
abbrev pub load_after : SizeCurve → ℕ → ℕ → ℕ
load_after c e w = all_sizes (asked e (own_of c.weights.items e w) c.by_weight)

-- by number, entries have no slots, or are too many to be added up
abbrev pub IsFull : List Place → ℕ → Type 0
IsFull places e = AreTooMany (length places) ⊎ (2 ^ 64 ≤ all_sizes (asked e 1 places))

abbrev pub IsMarkFull : Option Watermark → ℕ → Type 0
IsMarkFull None e = ⊥
IsMarkFull (Some m) e = IsFull m.heights e

abbrev pub IsNumberFault : List Place → ℕ → CurveFault → Type 0
IsNumberFault places e Memory = Unit {0}
IsNumberFault places e TooHeavy = ⊥
IsNumberFault places e TooMany = IsFull places e

abbrev pub IsMarkFault : Option Watermark → ℕ → CurveFault → Type 0
IsMarkFault None e fault = fault ≡ Memory
IsMarkFault (Some m) e fault = IsNumberFault m.heights e fault

-- nothing but memory stands against an ask
pub record MayAsk (c : SizeCurve) (e w : ℕ) : Type 0 where
  pub counts : c.totals.asks < 2 ^ 64 - 1
  pub fits : load_after c e w < 2 ^ 64
  pub number : e ≢ nobody
  pub room : HasRoom (own_of c.weights.items e w) c.table

abbrev pub IsAskFault : SizeCurve → ℕ → ℕ → CurveFault → Type 0
IsAskFault c e w Memory = MayAsk c e w
IsAskFault c e w TooHeavy = (c.totals.asks < 2 ^ 64 - 1) × (2 ^ 64 ≤ load_after c e w)
IsAskFault c e w TooMany = (c.totals.asks ≡ 2 ^ 64 - 1) ⊎ ((e ≡ nobody) ⊎ (AreTooMany (length c.by_weight) ⊎ (IsMarkFull c.watermark e ⊎ HasNoRoom (own_of c.weights.items e w) c.table)))
