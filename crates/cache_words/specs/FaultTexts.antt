-- The texts of faults.
use Rattle.std.specs.Prelude.{ℕ, List, codes}
use Rattle.cache_words.specs.declared.pack.fault.PackFault.{PackFault}
use Rattle.cache_words.specs.declared.pack.fault.PackFault.TheVariants.{Short, Kind, Range, Utf8, Length}
use Rattle.cache_words.specs.declared.pack.fault.PackWriteFault.{PackWriteFault}
use Rattle.cache_words.specs.declared.pack.fault.PackWriteFault.TheVariants.{Memory, TooLong}

abbrev pub fault_text : PackFault → List ℕ
fault_text Short = codes "the input ends within a value"
fault_text Kind = codes "a value of another kind"
fault_text Range = codes "a number out of range"
fault_text Utf8 = codes "a text that is not UTF-8"
fault_text Length = codes "an array of another length"

abbrev pub write_fault_text : PackWriteFault → List ℕ
write_fault_text Memory = codes "out of memory"
write_fault_text TooLong = codes "a text or byte string of 2^32 bytes or more"
