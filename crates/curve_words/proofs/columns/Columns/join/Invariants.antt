use Rattle.std.proofs.Common.{◌≡◌, drop}
use Rattle.std.specs.Prelude.{Some}
use Rattle.curve_words.specs.Columns.{key_after}
use Rattle.curve_words.proofs.columns.Columns.join.Given as goal

abbrev pub invariant-loop-n : goal.invariant-loop-n
invariant-loop-n l = key_after l.self.delimiter l.line (Some l.key.items) (drop l.n-index l.columns) ≡ key_after l.self.delimiter l.line (Some l.fn.key.items) l.columns
