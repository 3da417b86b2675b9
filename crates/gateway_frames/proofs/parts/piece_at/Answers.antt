use Rattle.std.proofs.Common.{◌∙◌, sym, arith}
use Rattle.gateway_frames.proofs.Numbered.{some_at, after_at, end_at}
use Rattle.gateway_frames.proofs.parts.piece_at.Goals as goal
use Rattle.gateway_frames.proofs.parts.piece_at.Goals.{else-at-parts-2-via-then-at-parts-2+else-is_text, else-at-parts-2-via-else-at-parts-2}

pub returns-then-at-parts : goal.returns-then-at-parts
returns-then-at-parts c = c.of_part.ensures ∙ sym (some_at c.args.parts.now c.args.length c.args.number _ c.if-at-parts.true)

pub returns-then-is_text : goal.returns-then-is_text
returns-then-is_text c =
    let even = c.if-is_text.true in
    sym (after_at c.args.parts.now 0 c.args.length c.args.number (omega (arith, even)))

pub returns-else-at-parts-2 : goal.returns-else-at-parts-2
returns-else-at-parts-2 c = elim c.else-at-parts-2.branch [
  | else-at-parts-2-via-then-at-parts-2+else-is_text w ↦
      (let odd = w.if-is_text.false in sym (end_at c.args.parts.now 0 c.args.length c.args.number (omega (arith, odd))))
  | else-at-parts-2-via-else-at-parts-2 w ↦ sym (end_at c.args.parts.now 0 c.args.length c.args.number (omega arith))
]
