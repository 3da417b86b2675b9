-- A fault of the heights as one of the curve.
use Rattle.curve_heights.specs.declared.fault.HeightFault.{HeightFault}
use Rattle.curve_heights.specs.declared.fault.HeightFault.TheVariants as height
use Rattle.curve_sizes.specs.declared.fault.CurveFault.{CurveFault}
use Rattle.curve_sizes.specs.declared.fault.CurveFault.TheVariants.{Memory, TooHeavy, TooMany}

abbrev pub fault_of : HeightFault → CurveFault
fault_of height.Memory = Memory
fault_of height.TooHeavy = TooHeavy
fault_of height.TooMany = TooMany
