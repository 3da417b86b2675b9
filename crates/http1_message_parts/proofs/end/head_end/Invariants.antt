use Rattle.std.proofs.Common.{◌≡◌, ◌-◌, ◌≤◌, drop, take, length, reverse, min}
use Rattle.http1_message_parts.specs.End.{end_from, end_behind}
use Rattle.http1_message_parts.proofs.end.head_end.Given as goal

abbrev pub invariant-loop-n : goal.invariant-loop-n
invariant-loop-n l = (l.at ≤ length l.bytes) × (end_from l.at (reverse (take l.at l.bytes)) (drop l.at l.bytes) ≡ end_behind (min l.from (length l.bytes)) l.bytes)

abbrev pub decreases-loop-n : goal.decreases-loop-n
decreases-loop-n l = length l.bytes - l.at
