-- No line feed is among the bytes that were searched, and none was lost.
use Rattle.std.proofs.Common.{◌≢◌, ◌≤◌, All, take, length}
use Rattle.std.specs.Io.KnownBytes.{Keeps, prepend_known}
use Rattle.curve_lines.proofs.input.Input.next_line.Given as goal

abbrev pub invariant-loop : goal.invariant-loop
invariant-loop g l = (l.searched ≤ length l.self) × All (λ x. x ≢ 10) (take l.searched l.self)
    × Keeps (prepend_known l.fn.self (g.R.Read.remaining l.fn.reader)) (prepend_known l.self (g.R.Read.remaining l.reader))
