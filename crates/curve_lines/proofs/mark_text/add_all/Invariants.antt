use Rattle.std.proofs.Common.{◌≡◌, ◌++◌, drop}
use Rattle.std.specs.List.{flat_map}
use Rattle.curve_lines.specs.MarkTexts.{marks_head, mark_text}
use Rattle.curve_lines.proofs.mark_text.add_all.Given as goal

abbrev pub invariant-loop-mark : goal.invariant-loop-mark
invariant-loop-mark l = l.text.items ++ flat_map (mark_text l.caches) (drop l.mark-index l.marks) ≡ l.fn.text.items ++ (marks_head ++ flat_map (mark_text l.caches) l.marks)
