-- What a refused step says.
use Rattle.std.specs.Prelude.{ℕ, List, codes}
use Rattle.lru_core.specs.FaultTexts.{fault_text}
use Rattle.lru_actors.specs.declared.event.StepFault.{StepFault}
use Rattle.lru_actors.specs.declared.event.StepFault.TheVariants.{Unsent, Refused, NoRoom}

abbrev pub step_fault_text : {K : Type 0} → StepFault K → List ℕ
step_fault_text (Unsent back) = codes "out of memory for a message"
step_fault_text (Refused fault) = fault_text fault
step_fault_text NoRoom = codes "out of memory for an evicted pair"
