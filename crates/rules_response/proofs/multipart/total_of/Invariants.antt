use Rattle.std.proofs.Common.{◌≡◌, ◌≤◌, ◌+◌, ◌*◌, ◌^◌, map, drop}
use Rattle.std.specs.Prelude.{sum_by}
use Rattle.rules_response.specs.Reply.{piece_of}
use Rattle.rules_response.specs.Answering.{piece_length, total_length}
use Rattle.rules_response.proofs.multipart.total_of.Given as goal

abbrev pub invariant-loop-part : goal.invariant-loop-part
invariant-loop-part l = record {
  sum : l.total + sum_by piece_length (map piece_of (drop l.part-index l.parts)) ≡ total_length (map piece_of l.parts) l.after;
  within : l.total ≤ 2 ^ 64 + l.part-index * 2 ^ 65;
}
