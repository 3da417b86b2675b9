use Rattle.std.proofs.Common.{◌≡◌, ◌∷◌, [], sym, ap, ◌∙◌, arith}
use Rattle.std.specs.Prelude.{Ok, Err}
use Rattle.std.specs.Option.{option_map_or}
use Rattle.rules_fields.specs.Fields.{field, fields}
use Rattle.http1_message_parts.specs.Results.{map_ok}
use Rattle.http1_message_parts.specs.Lines.{lines_of, rows_of, fields_within}
use Rattle.http1_message_parts.proofs.Reading.{behind, refused, rows_split, is_one}
use Rattle.http1_message_parts.proofs.rows.read_fields.Goals as goal

pub returns-in-Err : goal.returns-in-Err
returns-in-Err c =
    let t = c.in-Some.text.now in
    let row = c.row_of-row.result.now in
    let rest = c.first_line.result.1 in
    let rows = option_map_or (λ r. rows_of (lines_of r.now)) rest [] in
    let filled = is_one row (sym c.is_empty.ensures ∙ c.if-is_empty.false) in
    let split : rows_of (lines_of t) ≡ row ∷ rows = ap rows_of c.first_line.ensures.first ∙ rows_split (λ r. r.now) c.first_line.result.0.now row rest c.row_of-row.ensures filled in
    let wrong = refused c.loop-left.room row rows c.in-Err.reason (omega arith) (sym c.field_of.ensures ∙ ap (map_ok field) c.in-Err.is) in
    let bad : fields_within c.loop-left.room (rows_of (lines_of t)) ≡ Err c.refusal.result = ap (fields_within c.loop-left.room) split ∙ wrong ∙ sym (ap Err c.refusal.ensures) in
    sym (ap (behind (fields c.loop-left.found.items)) bad)
    ∙ ap (λ o. behind (fields c.loop-left.found.items) (option_map_or (λ r. fields_within c.loop-left.room (rows_of (lines_of r.now))) o (Ok []))) (sym c.in-Some.is)
    ∙ c.loop-left.invariant
