use Rattle.std.proofs.Common.{◌≡◌, map, drop}
use Rattle.rules_ffi_arguments.specs.Words.{said, first_of}
use Rattle.rules_ffi_arguments.proofs.options.first_of.Given as goal

abbrev pub invariant-loop-s : goal.invariant-loop-s
invariant-loop-s l = first_of l.word (map said l.words) ≡ first_of l.word (map said (drop l.s-index l.words))
