use Rattle.std.proofs.Common.{◌≡◌, drop}
use Rattle.std.specs.List.{list_any}
use Rattle.gateway_rules.specs.Urls.{breaks_text}
use Rattle.gateway_rules.proofs.urls.breaks_text.Given as goal

abbrev pub invariant-loop-b : goal.invariant-loop-b
invariant-loop-b l = list_any breaks_text (drop l.b-index l.url) ≡ list_any breaks_text l.url
