use Rattle.std.proofs.Common.{◌≡◌, ◌+◌, length, false}
use Rattle.std.specs.List.{list_any}
use Rattle.std.specs.Option.{option_map_or}
use Rattle.http1_message_parts.specs.Lines.{lines_of}
use Rattle.gateway_rules.specs.Requests.{begins}
use Rattle.gateway_rules.proofs.requests.has_line.Given as goal

abbrev pub invariant-loop-left : goal.invariant-loop-left
invariant-loop-left l = option_map_or (λ t. list_any (begins l.name) (lines_of t.now)) l.left false ≡ list_any (begins l.name) (lines_of l.head)

abbrev pub decreases-loop-left : goal.decreases-loop-left
decreases-loop-left l = option_map_or (λ t. length t.now + 1) l.left 0
