-- Why a run ends early.
use Rattle.std.specs.Prelude.{◌≡◌, ◌≢◌}
use Rattle.std.specs.IoError.{error_kind}
use Rattle.std.specs.declared.io.Error.{Error}
use Rattle.std.specs.declared.io.ErrorKind.TheVariants.{OutOfMemory}
use Rattle.curve_lines.specs.declared.fault.RunFault.{RunFault}
use Rattle.curve_lines.specs.declared.fault.RunFault.TheVariants.{Stream, Memory, TooHeavy, TooMany}
use Rattle.curve_sizes.specs.declared.fault.CurveFault.{CurveFault}
use Rattle.curve_sizes.specs.declared.fault.CurveFault.TheVariants as curve

-- as what a stream's error is told: as out of memory just where memory was refused, and else as it is
abbrev pub IsToldAs : Error → RunFault → Type 0
IsToldAs error (Stream shown) = (shown ≡ error) × (error_kind error ≢ OutOfMemory)
IsToldAs error Memory = error_kind error ≡ OutOfMemory
IsToldAs error TooHeavy = ⊥
IsToldAs error TooMany = ⊥

-- a fault of a curve as one of a run
abbrev pub fault_of : CurveFault → RunFault
fault_of curve.Memory = Memory
fault_of curve.TooHeavy = TooHeavy
fault_of curve.TooMany = TooMany

-- a stream's fault is never that memory was refused
abbrev pub IsRunFault : RunFault → Type 0
IsRunFault (Stream error) = error_kind error ≢ OutOfMemory
IsRunFault Memory = Unit {0}
IsRunFault TooHeavy = Unit {0}
IsRunFault TooMany = Unit {0}
