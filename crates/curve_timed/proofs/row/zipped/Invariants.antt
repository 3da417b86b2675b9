use Rattle.std.proofs.Common.{◌≡◌, ◌++◌, drop}
use Rattle.curve_timed.specs.Zipped.{zipped}
use Rattle.curve_timed.proofs.row.zipped.Given as goal

abbrev pub invariant-loop-i : goal.invariant-loop-i
invariant-loop-i l = l.all.items ++ zipped (drop l.i l.rows) (drop l.i l.finds) (drop l.i l.bytes) ≡ zipped l.rows l.finds l.bytes
