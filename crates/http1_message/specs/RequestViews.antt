-- What a contract sees of a request that was read.
use Rattle.std.specs.Prelude.{ℕ, List, ◌++◌, map, codes, Option, Some, Result, Ok, Err}
use Rattle.rules_fields.specs.Fields.{Field, fields}
use Rattle.rules_fields.specs.Types.{Asked}
use Rattle.http1_message_parts.specs.declared.reason.Reason.{Reason}
use Rattle.http1_message.specs.declared.request.RequestHead.{RequestHead}
use Rattle.http1_message.specs.declared.request.HeadLines.{HeadLines}
use Rattle.http1_message.specs.declared.request.HeadLines.TheVariants.{Came, Made}
use Rattle.http1_message.specs.declared.request.HeardRequest.{HeardRequest}
use Rattle.http1_message.specs.declared.request.HeardRequest.TheVariants.{Read, More, Refused}
use Rattle.http1_message.specs.Cookies.{made_line}
use Rattle.http1_message.specs.Request.{ReadRequest}
use Rattle.rules_fields.specs.Meaning.{text_bytes}

abbrev pub lines_view : HeadLines → List Field
lines_view (Came lines) = fields lines.now
lines_view (Made lines) = fields lines.items

-- the lines that came, and those that were written anew
abbrev pub all_lines : RequestHead → List Field
all_lines h = fields h.lines.items ++ made_line (codes "Cookie") h.cookies.items ++ made_line (codes "Accept-Encoding") h.encodings.items

abbrev pub head_asked : RequestHead → Asked
head_asked h = record {
  method = h.method.now;
  scheme = h.scheme.now;
  host = h.host.items;
  target = text_bytes h.target;
  minor = h.minor;
  lines = all_lines h;
  framing = h.framing;
  takes_trailers = h.takes_trailers;
}

-- with what Connection lists, and whether there is Expect
abbrev pub head_view : RequestHead → ReadRequest
head_view h = (head_asked h, map (λ e. e.now) h.connection.items, h.expects)

abbrev pub heard : HeardRequest → Option (Result (ReadRequest × ℕ) Reason)
heard (Read head len) = Some (Ok (head_view head, len))
heard More = Option.None
heard (Refused r) = Some (Err r)
