use Rattle.std.proofs.Common.{◌∙◌, ◌++◌, ℕ, List, ap}
use Rattle.std.specs.List.{flat_map}
use Rattle.std.proofs.lemmas.List.{append_assoc}
use Rattle.curve_lines.specs.MarkTexts.{marks_head, mark_text}
use Rattle.curve_lines.proofs.mark_text.add_all.Goals as goal

pub loop-mark-init : goal.loop-mark-init
loop-mark-init c =
    let rest = flat_map (mark_text c.args.caches) c.args.marks.now in
    ap (λ (x : List ℕ). x ++ rest) c.in_ok-add.ensures ∙ append_assoc c.args.text.now.items marks_head rest
