-- What is fetched, and the second key under which it is stored (RFC 9111, 4.1).
use Rattle.std.specs.Prelude.{ℕ, Bool, if◌then◌else◌, List, Option, Some, None}
use Rattle.rules_fields.specs.Fields.{Field, all, has_line}
use Rattle.rules_fields.specs.Types.{Asked, Chosen}
use Rattle.rules_reuse.specs.Variants.{cased, value_of}
use Rattle.rules_forward.specs.Send.{fill}

-- a request as it is fetched, by the host that the origin is sent
abbrev pub fetched : Asked → List ℕ → Chosen → Asked
fetched r host o = record r { method = (fill r o).0; host = host; lines = (fill r o).1 }

-- the value that lines give a name, in the form of a second key; none where they have no line of it
abbrev pub value_sent : List Field → List ℕ → Option (List ℕ)
value_sent lines name = if has_line name lines then Some (cased name (value_of name (all name lines))) else None
