use Rattle.std.proofs.Common.{◌≡◌, ◌++◌, map, drop}
use Rattle.rules_ffi_arguments.specs.Words.{said}
use Rattle.rules_ffi_arguments.specs.Prepared.{prepared_lines}
use Rattle.rules_ffi_arguments.proofs.prepared.add_words.Given as goal

abbrev pub invariant-loop-word : goal.invariant-loop-word
invariant-loop-word l = l.text.items ++ prepared_lines (map said (drop l.word-index l.words)) ≡ l.fn.text.items ++ prepared_lines (map said l.words)
