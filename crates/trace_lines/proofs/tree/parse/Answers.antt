use Rattle.std.proofs.Common.{sym, ap, ◌∙◌}
use Rattle.json.specs.Value.{value_view}
use Rattle.trace_lines.specs.Trees.{tree_of}
use Rattle.trace_lines.proofs.TreeLemmas.{json_of_is, json_out_of_range, no_json_of_bytes}
use Rattle.trace_lines.proofs.tree.parse.Goals as goal

pub returns-in_default : goal.returns-in_default
returns-in_default c = no_json_of_bytes c.args.bytes.now c.in_default.ensures.cases.0

pub returns-then-is_in_range : goal.returns-then-is_in_range
returns-then-is_in_range c =
    json_of_is c.args.bytes.now (value_view c.in-Ok-parse_text.value) c.in-Ok.ensures.cases.1
    (ap tree_of (sym c.in-Ok.ensures.cases.0) ∙ c.in-Ok-parse_text.ensures.ok) (sym c.if-is_in_range.ensures)

pub returns-in-Ok-parse_text : goal.returns-in-Ok-parse_text
returns-in-Ok-parse_text c =
    json_out_of_range c.args.bytes.now (value_view c.in-Ok-parse_text.value) c.in-Ok.ensures.cases.1
    (ap tree_of (sym c.in-Ok.ensures.cases.0) ∙ c.in-Ok-parse_text.ensures.ok) (sym c.if-is_in_range.ensures)
