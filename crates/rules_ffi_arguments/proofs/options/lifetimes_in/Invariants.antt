use Rattle.std.proofs.Common.{◌≡◌, ◌++◌, drop, map}
use Rattle.rules_ffi_arguments.specs.Words.{said}
use Rattle.rules_ffi_arguments.specs.Options.{lifetimes_in}
use Rattle.rules_ffi_arguments.proofs.options.lifetimes_in.Given as goal

abbrev pub invariant-loop-s : goal.invariant-loop-s
invariant-loop-s l = l.rows.items ++ lifetimes_in l.word (map said (drop l.s-index l.words)) ≡ lifetimes_in l.word (map said l.words)
