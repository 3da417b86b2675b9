use Rattle.std.proofs.Common.{◌≡◌, drop}
use Rattle.std.specs.List.{list_any}
use Rattle.rules_response.specs.Ranges.{is_inverted}
use Rattle.rules_response.specs.Spans.{specs}
use Rattle.rules_response.proofs.ranges.has_inverted.Given as goal

abbrev pub invariant-loop-s : goal.invariant-loop-s
invariant-loop-s l = list_any is_inverted (specs (drop l.s-index l.forms)) ≡ list_any is_inverted (specs l.forms)
