use Rattle.std.proofs.Common.{◌≡◌, ◌++◌, drop}
use Rattle.curve_lines.specs.MarkTexts.{mark_rows}
use Rattle.curve_lines.proofs.mark_text.add_mark.Given as goal

abbrev pub invariant-loop-i : goal.invariant-loop-i
invariant-loop-i l = l.text.items ++ mark_rows l.caches l.mark (drop l.i l.mark.rows.items) (drop l.i l.mark.fresh.items) (drop l.i l.mark.held.items)
    ≡ l.initial.text.items ++ mark_rows l.caches l.mark l.mark.rows.items l.mark.fresh.items l.mark.held.items
