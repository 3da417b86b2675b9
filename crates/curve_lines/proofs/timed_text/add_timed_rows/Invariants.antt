use Rattle.std.proofs.Common.{◌≡◌, ◌++◌, drop}
use Rattle.curve_lines.specs.TimedTexts.{timed_rows}
use Rattle.curve_lines.proofs.timed_text.add_timed_rows.Given as goal

abbrev pub invariant-loop-i : goal.invariant-loop-i
invariant-loop-i l =
    l.text.items ++ timed_rows l.caches l.totals (drop l.i l.rows) (drop l.i l.fresh) (drop l.i l.owns) ≡ l.initial.text.items ++ timed_rows l.caches l.totals l.rows l.fresh l.owns
