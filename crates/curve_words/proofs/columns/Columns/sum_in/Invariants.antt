use Rattle.std.proofs.Common.{◌≡◌, drop}
use Rattle.curve_words.specs.Columns.{sum_after}
use Rattle.curve_words.specs.declared.listed.Total.TheVariants.{Number}
use Rattle.curve_words.proofs.columns.Columns.sum_in.Given as goal

abbrev pub invariant-loop-n : goal.invariant-loop-n
invariant-loop-n l = sum_after l.self.delimiter l.line l.sum (drop l.n-index l.self.bytes_before.items) ≡ sum_after l.self.delimiter l.line (Number 0) l.self.bytes_before.items
