use Rattle.std.proofs.Common.{◌≡◌, take}
use Rattle.std.specs.Prelude.{find, None}
use Rattle.gateway_exchanges.specs.Tables.{numbers_at}
use Rattle.gateway_tier.specs.Roles.{plays}
use Rattle.gateway_tier.proofs.waking.first_at.Given as goal

abbrev pub invariant-loop-place : goal.invariant-loop-place
invariant-loop-place l = find (plays l.role l.key l.g.table) (take l.place (numbers_at l.key l.g.table)) ≡ None
