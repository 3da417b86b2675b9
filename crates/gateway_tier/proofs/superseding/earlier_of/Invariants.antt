use Rattle.std.proofs.Common.{◌≡◌, filter, take}
use Rattle.gateway_rules.specs.Options.{options_of}
use Rattle.gateway_exchanges.specs.Tables.{numbers_at}
use Rattle.gateway_tier.specs.Superseding.{is_earlier}
use Rattle.gateway_tier.proofs.superseding.earlier_of.Given as goal

abbrev pub invariant-loop-at : goal.invariant-loop-at
invariant-loop-at l = l.numbers.items ≡ filter (is_earlier (options_of l.g.rules) l.e l.place l.g.table) (take l.at (numbers_at l.first l.g.table))
