use Rattle.std.proofs.Common.{◌≡◌, drop}
use Rattle.curve_words.specs.Columns.{is_listed}
use Rattle.curve_words.proofs.listed.is_listed.Given as goal

abbrev pub invariant-loop-other : goal.invariant-loop-other
invariant-loop-other l = is_listed l.word (drop l.other-index l.words) ≡ is_listed l.word l.words
