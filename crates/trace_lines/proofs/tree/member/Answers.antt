use Rattle.std.proofs.Common.{option_map, sym, ap, ◌∙◌}
use Rattle.json.specs.Find as trees
use Rattle.json.specs.Value.{value_view}
use Rattle.json.proofs.Trees.{view-Object}
use Rattle.trace_lines.specs.Trees.{data_of}
use Rattle.trace_lines.proofs.TreeLemmas.{get_is, mapped_twice}
use Rattle.trace_lines.proofs.tree.member.Goals as goal

pub returns-in-Object : goal.returns-in-Object
returns-in-Object c =
    let name = c.args.name.now in
    let seen = ap value_view c.in-Object.is ∙ view-Object c.in-Object.members in
    mapped_twice (λ v. value_view v.now) data_of c.last_named.result
    ∙ ap (option_map data_of) (c.last_named.ensures ∙ ap (trees.get name) (sym seen))
    ∙ sym (get_is name (value_view c.args.value.now))
