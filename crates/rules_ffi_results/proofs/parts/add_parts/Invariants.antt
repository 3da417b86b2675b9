use Rattle.std.proofs.Common.{◌≡◌, ◌++◌, drop, map, length}
use Rattle.rules_response.specs.Reply.{piece_of}
use Rattle.rules_ffi_results.specs.Parts.{befores, part_shapes}
use Rattle.rules_ffi_results.proofs.parts.add_parts.Given as goal

abbrev pub invariant-loop-part : goal.invariant-loop-part
invariant-loop-part l = record {
  text : l.text.items ++ befores (map piece_of (drop l.part-index l.parts)) ≡ l.fn.text.items ++ befores (map piece_of l.parts);
  shapes : l.shapes.items ++ part_shapes (length l.text.items) (map piece_of (drop l.part-index l.parts)) ≡ part_shapes (length l.fn.text.items) (map piece_of l.parts);
}
