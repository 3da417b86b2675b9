-- What a contract sees of a response that was read.
use Rattle.std.specs.Prelude.{ℕ, List, [], ◌∷◌, ◌++◌, codes, Option, Some, Result, Ok, Err}
use Rattle.rules_fields.specs.Fields.{Field, fields}
use Rattle.rules_fields.specs.Types.{Answered}
use Rattle.http1_message_parts.specs.declared.reason.Reason.{Reason}
use Rattle.http1_message.specs.declared.response.ResponseHead.{ResponseHead}
use Rattle.http1_message.specs.Response.{ReadResponse}
use Rattle.http1_message.specs.declared.response.HeardResponse.{HeardResponse}
use Rattle.http1_message.specs.declared.response.HeardResponse.TheVariants.{Read, More, Refused}

abbrev pub date_line : Option (List ℕ) → List Field
date_line Option.None = []
date_line (Some date) = (codes "Date", date) ∷ []

-- the lines that came, Via, and a Date that was added
abbrev pub all_lines : ResponseHead → List Field
all_lines h = fields h.lines.items ++ (codes "Via", h.via.items) ∷ [] ++ date_line h.date

abbrev pub head_answered : ResponseHead → Answered
head_answered h = record { status = h.status; minor = h.minor; lines = all_lines h; framing = h.framing }

-- and whether its connection ends behind it
abbrev pub head_view : ResponseHead → ReadResponse
head_view h = (head_answered h, h.closes)

abbrev pub heard : HeardResponse → Option (Result (ReadResponse × ℕ) Reason)
heard (Read head len) = Some (Ok (head_view head, len))
heard More = Option.None
heard (Refused r) = Some (Err r)
