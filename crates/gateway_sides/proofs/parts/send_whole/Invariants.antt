use Rattle.std.proofs.Common.{take}
use Rattle.std.specs.List.{flat_map}
use Rattle.gateway_sides.specs.Parts.{Sends, part_text}
use Rattle.gateway_sides.proofs.parts.send_whole.Given as goal

abbrev pub invariant-loop-part : goal.invariant-loop-part
invariant-loop-part l = Sends (flat_map (part_text l.e) (take l.part-index l.e.answer.parts.items)) l.fn.out l.out
