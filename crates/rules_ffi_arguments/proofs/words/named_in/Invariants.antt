use Rattle.std.proofs.Common.{◌≡◌, drop}
use Rattle.std.specs.Prelude.{find, bytes_eq}
use Rattle.rules_ffi_arguments.specs.Words.{name_of}
use Rattle.rules_ffi_arguments.proofs.words.named_in.Given as goal

abbrev pub invariant-loop-word : goal.invariant-loop-word
invariant-loop-word l = find (λ w. bytes_eq (name_of w) l.name) (drop l.word-index l.words) ≡ find (λ w. bytes_eq (name_of w) l.name) l.words
