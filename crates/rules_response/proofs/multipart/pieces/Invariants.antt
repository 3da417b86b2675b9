use Rattle.std.proofs.Common.{◌≡◌, ◌++◌, map, drop}
use Rattle.rules_response.specs.Spans.{spans}
use Rattle.rules_response.specs.Reply.{piece_of}
use Rattle.rules_response.specs.Answering.{pieces}
use Rattle.rules_response.proofs.multipart.pieces.Given as goal

abbrev pub invariant-loop-part : goal.invariant-loop-part
invariant-loop-part l = map piece_of l.found.items ++ pieces l.kind (spans (drop l.part-index l.parts)) l.length l.boundary ≡ pieces l.kind (spans l.parts) l.length l.boundary
