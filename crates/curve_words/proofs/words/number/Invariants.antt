use Rattle.std.proofs.Common.{◌≡◌, drop}
use Rattle.curve_words.specs.Words.{number_from}
use Rattle.curve_words.proofs.words.number.Given as goal

abbrev pub invariant-loop-digit : goal.invariant-loop-digit
invariant-loop-digit l = number_from l.number (drop l.digit-index l.word) ≡ number_from 0 l.word
