use Rattle.std.proofs.Common.{◌≡◌, false, take}
use Rattle.std.specs.List.{list_any}
use Rattle.gateway_exchanges.specs.Tables.{numbers_at}
use Rattle.gateway_responses.specs.Bodies.{is_reader}
use Rattle.gateway_responses.proofs.growth.has_reader_at.Given as goal

abbrev pub invariant-loop-place : goal.invariant-loop-place
invariant-loop-place l = list_any (is_reader l.x l.g.table) (take l.place (numbers_at l.key l.g.table)) ≡ false
