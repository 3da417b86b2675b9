use Rattle.std.proofs.Common.{◌≡◌, length}
use Rattle.gateway_rules.specs.Urls.{behind_scheme}
use Rattle.gateway_rules.proofs.urls.behind_scheme.Given as goal

abbrev pub invariant-loop-left : goal.invariant-loop-left
invariant-loop-left l = behind_scheme l.left ≡ behind_scheme l.text

abbrev pub decreases-loop-left : goal.decreases-loop-left
decreases-loop-left l = length l.left
