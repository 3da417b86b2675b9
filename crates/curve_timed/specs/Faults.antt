-- Why a request isn't counted.
use Rattle.std.specs.Prelude.{◌⊎◌, ℕ, length, Option, Some, None}
use Rattle.curve_runs.specs.declared.table.FreshTable.{FreshTable}
use Rattle.curve_sizes.specs.declared.fault.CurveFault.{CurveFault}
use Rattle.curve_sizes.specs.declared.fault.CurveFault.TheVariants.{Memory, TooHeavy, TooMany}
use Rattle.curve_sizes.specs.Faults.{IsAskFault, own_of}
use Rattle.curve_held.specs.Faults.{IsFillingFault, IsWalkFault}
use Rattle.curve_timed.specs.declared.curve.TimedCurve.{TimedCurve}

-- of what is found fresh too much was counted, or a moment is too great, where it is asked for
abbrev pub IsFreshFault : Option FreshTable → CurveFault → Type 0
IsFreshFault None fault = ⊥
IsFreshFault (Some t) Memory = Unit {0}
IsFreshFault (Some t) TooHeavy = ⊥
IsFreshFault (Some t) TooMany = Unit {0}

-- Why a request isn't counted: entries can't be gone over for a mark, or it isn't counted by size, as fresh, or among what is held. Memory may run out
-- whatever else there is.
abbrev pub IsTimedFault : TimedCurve → ℕ → ℕ → CurveFault → Type 0
IsTimedFault c e w Memory = Unit {0}
IsTimedFault c e w TooHeavy = IsAskFault c.curve e w TooHeavy ⊎ IsFillingFault c.filling e (own_of c.curve.weights.items e w) TooHeavy
IsTimedFault c e w TooMany =
    IsWalkFault (length c.curve.weights.items) TooMany
    ⊎ (IsAskFault c.curve e w TooMany ⊎ (IsFreshFault c.fresh TooMany ⊎ IsFillingFault c.filling e (own_of c.curve.weights.items e w) TooMany))
