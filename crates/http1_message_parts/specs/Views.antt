-- What a contract sees of what is read.
use Rattle.std.specs.Prelude.{List, map}
use Rattle.rules_fields.specs.Fields.{Field}
use Rattle.rules_fields.specs.Meaning.{text_bytes}
use Rattle.http1_message_parts.specs.Start.{RequestLine}
use Rattle.http1_message_parts.specs.Target.{Absolute}
use Rattle.http1_message_parts.specs.declared.start.RequestLine.{RequestLine as Read}
use Rattle.http1_message_parts.specs.declared.target.AbsoluteTarget.{AbsoluteTarget as Form}
use Rattle.http1_message_parts.specs.declared.text.MadeLine.{MadeLine}

abbrev pub line_view : Read → RequestLine
line_view l = record { method = l.method.now; target = l.target.now; minor = l.minor }

abbrev pub absolute_view : Form → Absolute
absolute_view f = (f.scheme.now, f.authority.now, f.rest.now)

-- a line whose value may be made
abbrev pub made_field : MadeLine → Field
made_field l = (l.name.now, text_bytes l.value)

abbrev pub made_fields : List MadeLine → List Field
made_fields lines = map made_field lines
