-- A line that is sent, as its name and its value.
use Rattle.std.specs.Prelude.{List, map}
use Rattle.rules_fields.specs.Fields.{Field}
use Rattle.rules_fields.specs.Meaning.{text_bytes}
use Rattle.rules_response.specs.declared.lines.SentLine.{SentLine}

abbrev pub sent_field : SentLine → Field
sent_field line = (line.name.now, text_bytes line.value)

abbrev pub sent_fields : List SentLine → List Field
sent_fields lines = map sent_field lines
