use Rattle.std.proofs.Common.{◌≡◌, ◌++◌, map, drop}
use Rattle.std.specs.Prelude.{filter}
use Rattle.rules_fields.specs.Texts.{is_filled}
use Rattle.rules_ffi_arguments.specs.Words.{said, valued}
use Rattle.rules_ffi_arguments.proofs.options.filled.Given as goal

abbrev pub invariant-loop-s : goal.invariant-loop-s
invariant-loop-s l = map (λ t. t.now) l.found.items ++ filter is_filled (valued l.word (map said (drop l.s-index l.words))) ≡ filter is_filled (valued l.word (map said l.words))
