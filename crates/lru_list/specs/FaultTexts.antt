-- Faults as text.
use Rattle.std.specs.Prelude.{List, ℕ, codes}
use Rattle.lru_list.specs.declared.linked_list.fault.ListFault.{ListFault}
use Rattle.lru_list.specs.declared.linked_list.fault.ListFault.TheVariants.{Memory, Full}

abbrev pub fault_text : {K : Type 0} → ListFault K → List ℕ
fault_text (Memory item) = codes "out of memory"
fault_text (Full item) = codes "the list is full"
