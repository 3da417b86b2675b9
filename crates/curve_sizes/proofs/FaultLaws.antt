-- Faults by number.
use Rattle.std.proofs.Common.{ℕ, Option, Some, None, refl}
use Rattle.curve_sizes.specs.declared.watermark.Watermark.{Watermark}
use Rattle.curve_sizes.specs.declared.fault.CurveFault.TheVariants.{Memory}
use Rattle.curve_sizes.specs.Faults.{IsMarkFault}

-- memory may run out with a watermark or without
pub memory_is : (watermark : Option Watermark) (e : ℕ) → IsMarkFault watermark e Memory
memory_is None e = refl
memory_is (Some m) e = tt
