use Rattle.std.proofs.Common.{◌≡◌, ◌++◌, map, drop}
use Rattle.std.specs.Prelude.{filter}
use Rattle.rules_response.specs.Ranges.{is_filled_part, part_of}
use Rattle.rules_response.specs.Spans.{specs, spans}
use Rattle.rules_response.proofs.ranges.parts_of.Given as goal

abbrev pub invariant-loop-s : goal.invariant-loop-s
invariant-loop-s l = spans l.parts.items ++ filter is_filled_part (map (part_of l.length) (specs (drop l.s-index l.forms))) ≡ filter is_filled_part (map (part_of l.length) (specs l.forms))
