-- Tails as they are kept.
use Rattle.std.specs.Prelude.{ℕ}
use Rattle.std.specs.FinMap.{from_entries}
use Rattle.std.specs.HashMap.{HashMap}
use Rattle.gateway_exchanges.specs.declared.tails.Tail.{Tail}
use Rattle.gateway_exchanges.specs.Tails.{TailMap}

abbrev pub tails_of : {S : Type 0} → HashMap ℕ Tail S → TailMap
tails_of m = from_entries m.entries
