-- Faults as text.
use Rattle.std.specs.Prelude.{List, ℕ, codes}
use Rattle.lru_core.specs.declared.lru_unit.fault.LruFault.{LruFault}
use Rattle.lru_core.specs.declared.lru_unit.fault.LruFault.TheVariants.{Memory, Weight, Length}

abbrev pub fault_text : {D : Type 0} → LruFault D → List ℕ
fault_text (Memory back) = codes "out of memory"
fault_text (Weight back) = codes "the weight of the shard would pass its bound"
fault_text (Length back) = codes "the shard has no room for one more row"
