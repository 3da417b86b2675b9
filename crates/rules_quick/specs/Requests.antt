-- What is told of a request that was read, and what is to be done with it.
use Rattle.std.specs.Prelude.{ℕ, ◌+◌, Bool, ◌&&◌, ◌||◌, ◌==◌, List, [], ◌++◌, length, filter, codes, bytes_eq, Option, Some, None, Result, Ok, Err}
use Rattle.std.specs.List.{list_any}
use Rattle.rules_fields.specs.Texts.{small}
use Rattle.rules_fields.specs.Tables.{among, asked}
use Rattle.rules_fields.specs.Fields.{Field}
use Rattle.rules_fields.specs.Types.{Asked, Chosen}
use Rattle.http1_message_parts.specs.Reasons.{status_of}
use Rattle.http1_message_parts.specs.declared.reason.Reason.{Reason}
use Rattle.http1_message.specs.Request.{ReadRequest}
use Rattle.rules_reuse.specs.Keys.{key_of}
use Rattle.rules_reuse.specs.Planning.{plan_of, is_reload, only_if_cached, has_content}
use Rattle.rules_reuse.specs.declared.planning.Why.{Why}
use Rattle.rules_reuse.specs.declared.planning.Why.TheVariants as whys
use Rattle.rules_reuse.specs.declared.planning.Plan.{Plan}
use Rattle.rules_reuse.specs.declared.planning.Plan.TheVariants.{Look, Pass, LastForward, OnlyIfCached}
use Rattle.rules_ffi_arguments.specs.Rooms.{block, behind}
use Rattle.rules_ffi_arguments.specs.declared.shapes.RequestShape.{RequestShape}
use Rattle.rules_ffi_results.specs.Numbers.{mark, none, framing_numbers, nowhere}
use Rattle.rules_ffi_results.specs.Reasons.{refusal_number}

abbrev pub unread : ℕ → ℕ → ℕ → ℕ → RequestShape
unread status needed refusal reason = record {
  status = status;
  needed = needed;
  used = 0;
  refusal = refusal;
  reason = reason;
  plan = 0;
  minor = 0;
  framing = 0;
  length = 0;
  marks = 0;
  method = nowhere;
  host = nowhere;
  target = nowhere;
  key = nowhere;
  lines = nowhere;
  whole = nowhere;
  asked = nowhere;
}

abbrev pub blank_request : ℕ → ℕ → RequestShape
blank_request status needed = unread status needed 0 0

abbrev pub refused : Reason → RequestShape
refused reason = unread 66 0 (status_of reason) (refusal_number reason)

-- a body that is to be asked for (RFC 9110, 10.1.1)
abbrev pub awaits : Asked → Bool → Bool
awaits a expects = a.minor == 1 && has_content a.framing && expects

abbrev pub closes : Asked → List (List ℕ) → Bool
closes a connection = a.minor == 0 || list_any (λ e. bytes_eq (small e) (codes "close")) connection

abbrev pub marks_of : Asked → List (List ℕ) → Bool → Chosen → ℕ
marks_of a connection expects o =
    mark (closes a connection) 1 + mark a.takes_trailers 2 + mark (awaits a expects) 4 + mark (bytes_eq a.method (codes "HEAD")) 8
    + mark (only_if_cached a o) 16 + mark (is_reload a o) 32

abbrev pub why_number : Why → ℕ
why_number whys.Method = 6
why_number whys.Content = 25
why_number whys.Precondition = 26
why_number whys.NoStore = 27

-- the plan, the status of an answer, and why
abbrev pub plan_numbers : Plan → ℕ × ℕ × ℕ
plan_numbers Look = (1, 0, 0)
plan_numbers (Pass why) = (2, 0, why_number why)
plan_numbers (LastForward status) = (3, status, 24)
plan_numbers OnlyIfCached = (3, 504, 51)

-- the lines by which what is stored answers
abbrev pub asked_lines : List Field → List Field
asked_lines lines = filter (λ f. among asked (small f.0)) lines

-- the lines, and behind them once more those by which what is stored answers
abbrev pub request_text : Asked → List ℕ → List ℕ
request_text a key = a.method ++ a.host ++ a.target ++ key ++ block a.lines ++ block (asked_lines a.lines)

abbrev pub request_shape : Asked → List ℕ → ℕ × ℕ × ℕ → ℕ → ℕ → RequestShape
request_shape a text plan marks used =
    let host = behind (length a.method) a.host in
    let target = behind host.to a.target in
    let key = behind target.to text in
    let lines = behind key.to (block a.lines) in
    let last = behind lines.to (block (asked_lines a.lines)) in
    record {
      status = 65;
      needed = 0;
      used = used;
      refusal = plan.1;
      reason = plan.2;
      plan = plan.0;
      minor = a.minor;
      framing = (framing_numbers a.framing).0;
      length = (framing_numbers a.framing).1;
      marks = marks;
      method = behind 0 a.method;
      host = host;
      target = target;
      key = key;
      lines = lines;
      whole = record { from = 0; to = last.to };
      asked = last;
    }

abbrev pub request_told : Asked → List ℕ → ℕ × ℕ × ℕ → ℕ → ℕ → List ℕ × RequestShape
request_told a key plan marks used = (request_text a key, request_shape a key plan marks used)

abbrev pub shaped : ReadRequest → ℕ → Chosen → List ℕ × RequestShape
shaped r used o =
    let key = key_of r.0.scheme r.0.host r.0.target o in
    request_told r.0 key (plan_numbers (plan_of r.0 o)) (marks_of r.0 r.1 r.2 o) used

-- what was heard: nothing yet, a refusal, or a request
abbrev pub told_heard : Option (Result (ReadRequest × ℕ) Reason) → Chosen → List ℕ × RequestShape
told_heard None o = ([], unread 64 0 0 0)
told_heard (Some (Err reason)) o = ([], refused reason)
told_heard (Some (Ok r)) o = shaped r.0 r.1 o

-- the shape of a plain request, whose texts end at these places
abbrev pub plain_shape : ℕ → ℕ → ℕ → ℕ → ℕ → ℕ → ℕ → ℕ → RequestShape
plain_shape method host target key lines asked marks used = record {
  status = 65;
  needed = 0;
  used = used;
  refusal = 0;
  reason = 0;
  plan = 1;
  minor = 1;
  framing = 0;
  length = none;
  marks = marks;
  method = record { from = 0; to = method };
  host = record { from = method; to = host };
  target = record { from = host; to = target };
  key = record { from = target; to = key };
  lines = record { from = key; to = lines };
  whole = record { from = 0; to = asked };
  asked = record { from = lines; to = asked };
}
