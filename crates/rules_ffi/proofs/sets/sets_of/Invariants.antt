use Rattle.std.proofs.Common.{◌≡◌, ◌+◌, ◌++◌, [], map, length}
use Rattle.std.specs.Option.{option_map_or}
use Rattle.http1_message_parts.specs.Lines.{lines_of}
use Rattle.rules_ffi.specs.Sets.{sets_within, sets_of}
use Rattle.rules_ffi.specs.SetViews.{set_of}
use Rattle.rules_ffi.proofs.sets.sets_of.Given as goal

abbrev pub invariant-loop-left : goal.invariant-loop-left
invariant-loop-left l = map set_of l.sets.items ++ sets_within l.most (option_map_or (λ t. lines_of t.now) l.left []) ≡ sets_of l.list

abbrev pub decreases-loop-left : goal.decreases-loop-left
decreases-loop-left l = option_map_or (λ t. length t.now + 1) l.left 0
