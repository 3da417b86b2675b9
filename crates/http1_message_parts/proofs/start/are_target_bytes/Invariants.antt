use Rattle.std.proofs.Common.{◌≡◌, ◌+◌, ◌∷◌, ◌++◌, ◌==◌, [], drop, take, map, length, reverse, false}
use Rattle.std.specs.List.{list_all}
use Rattle.http1_message_parts.specs.Start.{is_target_byte}
use Rattle.http1_message_parts.proofs.start.are_target_bytes.Given as goal

abbrev pub invariant-loop-b : goal.invariant-loop-b
invariant-loop-b l = list_all is_target_byte (drop l.b-index l.text) ≡ list_all is_target_byte l.text
