use Rattle.std.proofs.Common.{◌≡◌, ◌≤◌, ◌+◌, ◌++◌, [], map, length}
use Rattle.std.specs.Option.{option_map_or}
use Rattle.http1_message_parts.specs.Lines.{lines_of}
use Rattle.rules_ffi.specs.Sets.{front, behind_front}
use Rattle.rules_ffi.proofs.sets.front.Given as goal

abbrev pub invariant-loop-left : goal.invariant-loop-left
invariant-loop-left l = record {
  lines : map (λ n. n.now) l.lines.items ++ front (option_map_or (λ t. lines_of t.now) l.left []) ≡ front (option_map_or (λ t. lines_of t.now) l.from []);
  behind : behind_front (option_map_or (λ t. lines_of t.now) l.left []) ≡ behind_front (option_map_or (λ t. lines_of t.now) l.from []);
  shorter : option_map_or (λ t. length t.now + 1) l.left 0 ≤ option_map_or (λ t. length t.now + 1) l.from 0;
}

abbrev pub decreases-loop-left : goal.decreases-loop-left
decreases-loop-left l = option_map_or (λ t. length t.now + 1) l.left 0
