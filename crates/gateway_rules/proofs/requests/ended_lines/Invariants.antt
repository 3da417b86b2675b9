use Rattle.std.proofs.Common.{◌≡◌, ◌+◌, ◌++◌, [], length, map}
use Rattle.std.specs.Option.{option_map_or}
use Rattle.gateway_rules.specs.Requests.{ended_lines}
use Rattle.gateway_rules.proofs.requests.ended_lines.Given as goal

abbrev pub invariant-loop-left : goal.invariant-loop-left
invariant-loop-left l = map (λ k. k.items) l.lines.items ++ option_map_or (λ t. ended_lines t.now) l.left [] ≡ ended_lines l.text

abbrev pub decreases-loop-left : goal.decreases-loop-left
decreases-loop-left l = option_map_or (λ t. length t.now + 1) l.left 0
