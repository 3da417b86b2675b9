use Rattle.std.proofs.Common.{◌≡◌, ◌++◌, drop}
use Rattle.std.specs.List.{flat_map}
use Rattle.curve_lines.specs.ColumnLines.{is_timed}
use Rattle.curve_lines.specs.PartTexts.{text_by, found_text}
use Rattle.curve_lines.proofs.written.found_text.Given as goal

abbrev pub invariant-loop-part : goal.invariant-loop-part
invariant-loop-part l = l.text.items ++ flat_map (text_by (is_timed l.rules.lifetime l.rules.columns) l.rules l.found) (drop l.part-index l.found.readings.parts.items) ≡ found_text l.rules l.found
