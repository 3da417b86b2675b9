-- Faults as text.
use Rattle.std.specs.Prelude.{List, ℕ, codes}
use Rattle.lru_numbers.specs.declared.fault.NumbersFault.{NumbersFault}
use Rattle.lru_numbers.specs.declared.fault.NumbersFault.TheVariants.{Memory, Length, NumbersSpent}

abbrev pub numbers_fault_text : NumbersFault → List ℕ
numbers_fault_text (Memory back) = codes "out of memory"
numbers_fault_text (Length back) = codes "there is no room for one more entry"
numbers_fault_text (NumbersSpent back) = codes "no number is left for the entry's hash"
