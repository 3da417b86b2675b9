-- What a table keeps, as contracts see it.
use Rattle.std.specs.Prelude.{ℕ, List, map, Option, option_map, Box, Vec}
use Rattle.std.specs.Global.{Global}
use Rattle.std.specs.FinMap.{FinMap, from_entries}
use Rattle.std.specs.HashMap.{HashMap}
use Rattle.std.specs.Ordering.{nat_cmp}
use Rattle.std.specs.Cmp.Lexicographic.{slice_cmp}
use Rattle.gateway_exchanges.specs.declared.exchange.Exchange.{Exchange}

abbrev pub exchange_in : Option (Box Exchange Global) → Option Exchange
exchange_in place = option_map (λ b. b.value) place

abbrev pub numbers_in : Vec ℕ Global → List ℕ
numbers_in numbers = numbers.items

abbrev pub places_in : {S : Type 0} → HashMap ℕ (Option (Box Exchange Global)) S → FinMap nat_cmp (Option Exchange)
places_in m = from_entries (map (λ e. (e.0, exchange_in e.1)) m.entries)

abbrev pub keys_in : {S : Type 0} → HashMap (List ℕ) (Vec ℕ Global) S → FinMap (slice_cmp nat_cmp) (List ℕ)
keys_in m = from_entries (map (λ e. (e.0, numbers_in e.1)) m.entries)
