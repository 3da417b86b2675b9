-- The exit status of the program.
use Rattle.std.specs.Prelude.{ℕ, Result, Ok, Err, ⊤}
use Rattle.trace_replay.specs.OptionStatuses as options
use Rattle.trace_replay.specs.declared.replay.ReplayError.{ReplayError}
use Rattle.trace_replay.specs.declared.status.Fault.{Fault}
use Rattle.trace_replay.specs.declared.status.Fault.TheVariants.{Options, Replay}

-- 1 of a replay that ended early or saved nothing
abbrev pub replay_status : ReplayError → ℕ
replay_status error = 1

abbrev pub fault_status : Fault → ℕ
fault_status (Options error) = options.status_of error
fault_status (Replay error) = replay_status error

-- 0 of a success, and else that of the fault
abbrev pub status_of : {E : Type 0} → (E → ℕ) → Result ⊤ E → ℕ
status_of of_fault (Ok done) = 0
status_of of_fault (Err fault) = of_fault fault
