-- The pieces so far, in front of those of what is left, are all the pieces.
use Rattle.std.proofs.Common.{◌≡◌, ◌++◌, drop}
use Rattle.std.specs.Prelude.{option_map}
use Rattle.trace_lines.specs.Lines.{all_bytes_of}
use Rattle.trace_lines.specs.Trees.{items_seen}
use Rattle.trace_lines.proofs.fields.all_bytes.Given as goal

abbrev pub invariant-loop-value : goal.invariant-loop-value
invariant-loop-value l =
    option_map (λ bs. l.all.items ++ bs) (all_bytes_of (items_seen (drop l.value-index l.values.items))) ≡ all_bytes_of (items_seen l.values.items)
