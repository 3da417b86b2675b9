-- What the fields of tails are seen as.
use Rattle.gateway_exchanges.specs.declared.tails.Tails.TheInside.{Inside}
use Rattle.gateway_exchanges.specs.Tails.{TailMap}
use Rattle.gateway_exchanges.specs.TailMaps.{tails_of}

abbrev pub tails_in : Inside → TailMap
tails_in t = tails_of t.open
