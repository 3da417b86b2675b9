-- The values so far are in range.
use Rattle.std.proofs.Common.{◌≡◌, drop}
use Rattle.json.specs.Value.{items_view, members_view}
use Rattle.trace_lines.specs.Trees.{items_in_range, members_in_range}
use Rattle.trace_lines.proofs.tree.+range.Given as goal

abbrev pub invariant-are_in_range-loop-item : goal.invariant-are_in_range-loop-item
invariant-are_in_range-loop-item l = items_in_range (items_view (drop l.item-index l.items.items)) ≡ items_in_range (items_view l.items.items)

abbrev pub invariant-have_range-loop-member : goal.invariant-have_range-loop-member
invariant-have_range-loop-member l = members_in_range (members_view (drop l.member-index l.members.items)) ≡ members_in_range (members_view l.members.items)
