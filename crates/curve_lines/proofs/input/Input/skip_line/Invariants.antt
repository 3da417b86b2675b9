-- What is held is of the line that is passed over.
use Rattle.std.proofs.Common.{◌≢◌, All}
use Rattle.std.specs.Io.KnownBytes.{prepend_known}
use Rattle.curve_lines.proofs.PassingLemmas.{IsPassing}
use Rattle.curve_lines.proofs.input.Input.skip_line.Given as goal

abbrev pub invariant-loop : goal.invariant-loop
invariant-loop g l = All (λ x. x ≢ 10) l.self
    × IsPassing (prepend_known l.fn.self (g.R.Read.remaining l.fn.reader)) (prepend_known l.self (g.R.Read.remaining l.reader))
