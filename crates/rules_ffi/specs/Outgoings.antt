-- What a contract sees of what goes to the origin.
use Rattle.rules_fields.specs.Fields.{fields}
use Rattle.rules_ffi.specs.declared.sending.Outgoing.{Outgoing}
use Rattle.rules_ffi.specs.Sends.{Goes}

abbrev pub goes : Outgoing → Goes
goes g = record { what = g.what; method = g.method.now; lines = fields g.lines.items }
