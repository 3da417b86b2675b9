use Rattle.std.proofs.Common.{◌≡◌, ◌-◌}
use Rattle.curve_words.specs.Columns.{word_at}
use Rattle.curve_words.proofs.columns.word_at.Given as goal

abbrev pub invariant-loop : goal.invariant-loop
invariant-loop l = word_at (l.n - l.counter) l.rest ≡ word_at l.n l.text
