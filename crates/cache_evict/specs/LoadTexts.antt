-- Faults of loading.
use Rattle.std.specs.Prelude.{List, ℕ, codes}
use Rattle.cache_words.specs.FaultTexts.{fault_text}
use Rattle.cache_evict.specs.declared.load_fault.LoadFault.{LoadFault}
use Rattle.cache_evict.specs.declared.load_fault.LoadFault.TheVariants as load
use Rattle.cache_evict.specs.declared.tracker.refusal.Refusal.{Refusal}
use Rattle.cache_evict.specs.declared.tracker.refusal.Refusal.TheVariants.{Memory, Weight, Length, Spent}

abbrev pub fault_of : Refusal → LoadFault
fault_of Memory = load.Memory
fault_of Weight = load.Weight
fault_of Length = load.Length
fault_of Spent = load.NumbersSpent

abbrev pub load_fault_text : LoadFault → List ℕ
load_fault_text (load.Text fault) = fault_text fault
load_fault_text load.Memory = codes "out of memory"
load_fault_text load.Weight = codes "the weight of the shard could not be counted"
load_fault_text load.Length = codes "there is no room for one more entry"
load_fault_text load.NumbersSpent = codes "no number is left for the entry's hash"
