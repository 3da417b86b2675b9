-- What a refused call says, and what a build that fails does.
use Rattle.std.specs.Prelude.{ℕ, List, codes}
use Rattle.lru_async.specs.declared.fault.SendFault.{SendFault}
use Rattle.lru_async.specs.declared.fault.SendFault.TheVariants as send
use Rattle.lru_core.specs.FaultTexts.{fault_text}
use Rattle.lru_async.specs.declared.fault.TailFault.{TailFault}
use Rattle.lru_async.specs.declared.fault.TailFault.TheVariants as tail
use Rattle.lru_async.specs.declared.fault.BuildFault.{BuildFault}
use Rattle.lru_async.specs.declared.fault.BuildFault.TheVariants as build

abbrev pub send_fault_text : {T : Type 0} → SendFault T → List ℕ
send_fault_text (send.Memory back) = codes "out of memory for a message"
send_fault_text (send.Closed back) = codes "the shard's actor has ended"

abbrev pub tail_fault_text : {K : Type 0} → TailFault K → List ℕ
tail_fault_text (tail.Unsent fault) = send_fault_text fault
tail_fault_text (tail.Refused fault) = fault_text fault
tail_fault_text tail.Unanswered = codes "the shard's actor has ended"

abbrev pub build_fault_text : BuildFault → List ℕ
build_fault_text build.Memory = codes "out of memory"
build_fault_text build.NoThread = codes "the system makes no more threads"
