use Rattle.std.proofs.Common.{◌≡◌, ◌<◌, ℕ, length, get_or}
use Rattle.curve_held.specs.declared.row.HeldRow.{HeldRow}
use Rattle.curve_held.specs.Walks.{row_at}
use Rattle.curve_held.proofs.walk.joined.Given as goal

abbrev pub invariant-loop-i : goal.invariant-loop-i
invariant-loop-i l = (length l.rows.items ≡ l.i) × ((k : ℕ) (d : HeldRow) → k < l.i → get_or l.rows.items k d ≡ row_at l.counts l.oldest l.full k)
