use Rattle.std.proofs.Common.{sym, ◌∙◌}
use Rattle.json.specs.Value.{value_view}
use Rattle.trace_lines.proofs.TreeLemmas.{as_str_is}
use Rattle.trace_lines.proofs.tree.text.Goals as goal

pub returns : goal.returns
returns c = c.as_str.ensures ∙ sym (as_str_is (value_view c.args.value.now))
