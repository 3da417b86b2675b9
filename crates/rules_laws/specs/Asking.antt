-- Of the lines of a request those that decide whether and how what is stored answers.
use Rattle.std.specs.Prelude.{List, filter}
use Rattle.rules_fields.specs.Texts.{small}
use Rattle.rules_fields.specs.Tables.{among, asked}
use Rattle.rules_fields.specs.Fields.{Field}
use Rattle.rules_fields.specs.Types.{Asked}

abbrev pub asked_lines : List Field → List Field
asked_lines lines = filter (λ f. among asked (small f.0)) lines

-- a request with these alone
abbrev pub with_asked : Asked → Asked
with_asked request = record request { lines = asked_lines request.lines }
