use Rattle.std.proofs.Common.{◌≡◌, map, drop}
use Rattle.std.specs.Prelude.{filter, codes}
use Rattle.std.specs.List.{fold}
use Rattle.rules_fields.specs.Fields.{fields, elements}
use Rattle.http1_message.specs.Cookies.{joined_to}
use Rattle.http1_message.specs.Encodings.{admits, encodings_of}
use Rattle.http1_message.proofs.encodings.encodings_of.Given as goal

abbrev pub invariant-loop-coding : goal.invariant-loop-coding
invariant-loop-coding l =
    fold (joined_to (codes ", ")) l.text.items (filter (admits (elements (codes "accept-encoding") (fields l.lines))) (map (λ c. c.now) (drop l.coding-index l.list)))
    ≡ encodings_of (map (λ c. c.now) l.list) (fields l.lines)
