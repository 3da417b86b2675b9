use Rattle.std.proofs.Common.{◌≡◌, [], false, sym, ap, ◌∙◌}
use Rattle.std.specs.Prelude.{Some}
use Rattle.std.specs.Option.{option_map_or}
use Rattle.http1_message_parts.specs.Lines.{lines_of, rows_of}
use Rattle.rules_serving.specs.Whole.{with_text, copied}
use Rattle.rules_serving.proofs.Copied.{plus, copied_rows, plus_nothing, rows_end, from_front}
use Rattle.rules_serving.proofs.rows.add_rows.Goals as goal

pub returns-then-is_empty : goal.returns-then-is_empty
returns-then-is_empty c =
    let text = c.loop-left.text.items in
    let says = c.loop-left.says in
    let rows : rows_of (lines_of c.in-Some.rest.now) ≡ [] = ap rows_of c.first_line.ensures.first ∙ rows_end c.first_line.result.0.now c.row_of-row.result.now (option_map_or (λ r. lines_of r.now) c.first_line.result.1 []) c.row_of-row.ensures (sym c.is_empty.ensures ∙ c.if-is_empty.true) in
    sym (plus_nothing text says)
    ∙ ap (λ rs. plus text says (copied_rows rs)) (sym rows)
    ∙ ap (λ o. plus text says (option_map_or (λ t. copied_rows (rows_of (lines_of t.now))) o (Some (with_text [] false)))) (sym c.in-Some.is)
    ∙ c.loop-left.invariant ∙ from_front c.args.text.now.items (copied c.args.block.now)

pub returns : goal.returns
returns c =
    let text = c.loop-left.text.items in
    let says = c.loop-left.says in
    sym (plus_nothing text says)
    ∙ ap (λ o. plus text says (option_map_or (λ t. copied_rows (rows_of (lines_of t.now))) o (Some (with_text [] false)))) (sym c.in_default.is)
    ∙ c.loop-left.invariant ∙ from_front c.args.text.now.items (copied c.args.block.now)
