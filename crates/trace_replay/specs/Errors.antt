-- Errors of a replay.
use Rattle.std.specs.Prelude.{◌≡◌, ◌≢◌}
use Rattle.std.specs.IoError.{error_kind}
use Rattle.std.specs.declared.io.Error.{Error}
use Rattle.std.specs.declared.io.ErrorKind.TheVariants.{OutOfMemory}
use Rattle.trace_replay.specs.declared.replay.ReplayError.{ReplayError}
use Rattle.trace_replay.specs.declared.replay.ReplayError.TheVariants.{Stream, TooManyReads, Memory, Folder}

-- a fault of a stream, which is not that memory was refused, or out of memory
abbrev pub IsOther : ReplayError → Type 0
IsOther (Stream error) = error_kind error ≢ OutOfMemory
IsOther TooManyReads = ⊥
IsOther Memory = Unit {0}
IsOther Folder = ⊥

-- as what a stream's error is told: as out of memory just where memory was refused, and else as it is
abbrev pub IsToldAs : Error → ReplayError → Type 0
IsToldAs error (Stream shown) = (shown ≡ error) × (error_kind error ≢ OutOfMemory)
IsToldAs error Memory = error_kind error ≡ OutOfMemory
IsToldAs error _ = ⊥
