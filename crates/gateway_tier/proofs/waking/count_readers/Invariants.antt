use Rattle.std.proofs.Common.{◌≡◌, ◌≤◌, filter, take, length}
use Rattle.gateway_exchanges.specs.Tables.{numbers_at}
use Rattle.gateway_tier.specs.Roles.{plays}
use Rattle.gateway_tier.specs.declared.waking.Role.TheVariants.{Lacks}
use Rattle.gateway_tier.proofs.waking.count_readers.Given as goal

abbrev pub invariant-loop-place : goal.invariant-loop-place
invariant-loop-place l = record {
  counted : l.count ≡ length (filter (plays (Lacks l.x) l.key l.g.table) (take l.place (numbers_at l.key l.g.table)));
  within : l.count ≤ l.place;
}
