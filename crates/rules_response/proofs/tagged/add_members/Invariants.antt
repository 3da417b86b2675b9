use Rattle.std.proofs.Common.{◌≡◌, ◌++◌, ◌+◌, [], map, length}
use Rattle.std.specs.Option.{option_map_or}
use Rattle.rules_response.specs.Tagged.{members_of}
use Rattle.rules_response.proofs.tagged.add_members.Given as goal

abbrev pub invariant-loop-left : goal.invariant-loop-left
invariant-loop-left l = map (λ m. m.now) l.found.items ++ option_map_or (λ t. members_of t.now) l.left [] ≡ map (λ m. m.now) l.fn.found.items ++ members_of l.value

abbrev pub decreases-loop-left : goal.decreases-loop-left
decreases-loop-left l = option_map_or (λ t. length t.now + 1) l.left 0
