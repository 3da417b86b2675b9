-- What a table's fields are seen as.
use Rattle.gateway_exchanges.specs.declared.table.Table.TheInside.{Inside}
use Rattle.gateway_exchanges.specs.Places.{places_in, keys_in}
use Rattle.gateway_exchanges.specs.Tables.{Exchanges}

abbrev pub exchanges_in : Inside → Exchanges
exchanges_in t = record { places = places_in t.open; keys = keys_in t.by_key }
