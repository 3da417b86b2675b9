-- The texts of faults.
use Rattle.std.specs.Prelude.{List, ℕ, codes}
use Rattle.head_metas.specs.declared.fault.MetaFault.{MetaFault}
use Rattle.head_metas.specs.declared.fault.MetaFault.TheVariants.{Memory, MetaMoment}
use Rattle.head_metas.specs.declared.fault.MetaReadFault.{MetaReadFault}
use Rattle.head_metas.specs.declared.fault.MetaReadFault.TheVariants.{Pack}

abbrev pub fault_text : MetaFault → List ℕ
fault_text Memory = codes "out of memory"
fault_text MetaMoment = codes "a moment before 1970"

abbrev pub read_fault_text : MetaReadFault → List ℕ
read_fault_text (Pack fault) = codes "not a meta"
read_fault_text _ = codes "out of memory"
