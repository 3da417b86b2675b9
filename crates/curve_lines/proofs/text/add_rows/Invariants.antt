use Rattle.std.proofs.Common.{◌≡◌, ◌++◌, drop}
use Rattle.curve_lines.specs.Texts.{rows_text}
use Rattle.curve_lines.proofs.text.add_rows.Given as goal

abbrev pub invariant-loop-i : goal.invariant-loop-i
invariant-loop-i l =
    l.text.items ++ rows_text l.caches l.totals.asks l.totals.bytes (drop l.i l.rows) (drop l.i l.owns) ≡ l.initial.text.items ++ rows_text l.caches l.totals.asks l.totals.bytes l.rows l.owns
