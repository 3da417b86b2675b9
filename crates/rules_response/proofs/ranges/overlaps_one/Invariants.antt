use Rattle.std.proofs.Common.{◌≡◌, drop}
use Rattle.std.specs.List.{list_any}
use Rattle.rules_response.specs.Ranges.{overlap}
use Rattle.rules_response.specs.Spans.{span, spans}
use Rattle.rules_response.proofs.ranges.overlaps_one.Given as goal

abbrev pub invariant-loop-q : goal.invariant-loop-q
invariant-loop-q l = list_any (overlap (span l.p)) (spans (drop l.q-index l.parts)) ≡ list_any (overlap (span l.p)) (spans l.parts)
