use Rattle.std.proofs.Common.{◌≡◌, ◌++◌, drop, map}
use Rattle.rules_ffi_arguments.specs.Words.{said}
use Rattle.rules_ffi_arguments.specs.Options.{statuses_in}
use Rattle.rules_ffi_arguments.proofs.options.statuses_in.Given as goal

abbrev pub invariant-loop-s : goal.invariant-loop-s
invariant-loop-s l = l.found.items ++ statuses_in (map said (drop l.s-index l.words)) ≡ statuses_in (map said l.words)
