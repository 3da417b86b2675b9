use Rattle.std.proofs.Common.{◌≡◌, map, drop}
use Rattle.rules_response.specs.Ranges.{every, spec_of}
use Rattle.rules_response.specs.Spans.{specs}
use Rattle.rules_response.proofs.Pieces.{before}
use Rattle.rules_response.proofs.ranges.specs_of.Given as goal

abbrev pub invariant-loop-element : goal.invariant-loop-element
invariant-loop-element l = before (specs l.found.items) (every (map spec_of (map (λ e. e.now) (drop l.element-index l.elements)))) ≡ every (map spec_of (map (λ e. e.now) l.elements))
