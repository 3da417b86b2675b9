use Rattle.std.proofs.Common.{◌≡◌, ◌++◌, take, drop}
use Rattle.gateway_rules.specs.Urls.{before}
use Rattle.gateway_rules.proofs.urls.before.Given as goal

abbrev pub invariant-loop-b : goal.invariant-loop-b
invariant-loop-b l = record {
  place : l.n ≡ l.b-index;
  front : take l.n l.text ++ before l.wanted (drop l.b-index l.text) ≡ before l.wanted l.text;
}
