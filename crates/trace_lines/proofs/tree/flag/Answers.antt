use Rattle.std.proofs.Common.{sym, ◌∙◌}
use Rattle.json.specs.Value.{value_view}
use Rattle.trace_lines.proofs.TreeLemmas.{as_bool_is}
use Rattle.trace_lines.proofs.tree.flag.Goals as goal

pub returns : goal.returns
returns c = c.as_bool.ensures ∙ sym (as_bool_is (value_view c.args.value.now))
