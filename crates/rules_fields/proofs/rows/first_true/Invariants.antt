use Rattle.std.proofs.Common.{◌≡◌, drop}
use Rattle.rules_fields.specs.Rows.{first_true}
use Rattle.rules_fields.proofs.rows.first_true.Given as goal

abbrev pub invariant-loop-row : goal.invariant-loop-row
invariant-loop-row g l = first_true (drop l.row-index l.rows) ≡ first_true l.rows
