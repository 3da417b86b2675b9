-- What becomes of a line of a plain response, by its name in small letters.
use Rattle.std.specs.Prelude.{ℕ, if◌then◌else◌, List, bytes_eq, codes}
use Rattle.rules_fields.specs.Tables.{among, hop}
use Rattle.rules_quick.specs.PlainResponses.{watched}
use Rattle.rules_quick.specs.declared.response_names.Kind.{Kind}
use Rattle.rules_quick.specs.declared.response_names.Kind.TheVariants.{Kept, Date, Length, Coding, Connection, Hop, Watched}

abbrev pub kind_of : List ℕ → Kind
kind_of name =
    if among watched name then Watched
    else (if bytes_eq name (codes "date") then Date
    else (if bytes_eq name (codes "content-length") then Length
    else (if bytes_eq name (codes "transfer-encoding") then Coding
    else (if bytes_eq name (codes "connection") then Connection
    else (if among hop name then Hop else Kept)))))
