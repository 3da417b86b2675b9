use Rattle.std.proofs.Common.{◌≡◌, ◌==◌, drop}
use Rattle.std.specs.List.{list_any}
use Rattle.http1_message_parts.proofs.target.has_fragment.Given as goal

abbrev pub invariant-loop-b : goal.invariant-loop-b
invariant-loop-b l = list_any (λ b. b == 35) (drop l.b-index l.target) ≡ list_any (λ b. b == 35) l.target
