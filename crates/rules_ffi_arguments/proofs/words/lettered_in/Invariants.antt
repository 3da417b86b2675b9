use Rattle.std.proofs.Common.{◌≡◌, drop, ◌==◌}
use Rattle.std.specs.Prelude.{find}
use Rattle.rules_ffi_arguments.specs.Words.{letter_of}
use Rattle.rules_ffi_arguments.proofs.words.lettered_in.Given as goal

abbrev pub invariant-loop-word : goal.invariant-loop-word
invariant-loop-word l = find (λ w. letter_of w == l.letter) (drop l.word-index l.words) ≡ find (λ w. letter_of w == l.letter) l.words
