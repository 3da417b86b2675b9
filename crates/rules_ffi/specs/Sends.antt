-- The head of the request to the origin (RFC 9110, 7.6; RFC 9111, 4.3.1).
use Rattle.std.specs.Prelude.{ℕ, ◌==◌, if◌then◌else◌, List, [], ◌∷◌, ◌++◌, codes, bytes_eq, false, Option, Some, None}
use Rattle.rules_fields.specs.Texts.{is_filled}
use Rattle.rules_fields.specs.Tables.{conditions}
use Rattle.rules_fields.specs.Fields.{Field, without}
use Rattle.rules_fields.specs.Types.{Asked, KeptHead, Chosen}
use Rattle.rules_fields.specs.declared.types.Framing.{Framing}
use Rattle.rules_fields.specs.declared.types.Framing.TheVariants.{Length, Chunked}
use Rattle.rules_forward.specs.Forward.{forward}
use Rattle.rules_forward.specs.Send.{fill, validate}
use Rattle.rules_ffi_arguments.specs.Given.{◌>>=◌}
use Rattle.rules_ffi_arguments.specs.Options.{lists_in, chosen_by}
use Rattle.rules_ffi_arguments.specs.Spans.{lines_in, block_lines, value_in}
use Rattle.rules_ffi_arguments.specs.Requests.{asked_by}
use Rattle.rules_ffi_arguments.specs.Stored.{kept_by}
use Rattle.rules_ffi_arguments.specs.Rooms.{block, behind}
use Rattle.rules_ffi_arguments.specs.declared.shapes.OptionNumbers.{OptionNumbers}
use Rattle.rules_ffi_arguments.specs.declared.shapes.RequestShape.{RequestShape}
use Rattle.rules_ffi_arguments.specs.declared.shapes.HeadShape.{HeadShape}
use Rattle.rules_ffi_arguments.specs.declared.shapes.Out.{Out}
use Rattle.rules_ffi_results.specs.Numbers.{blank, mark, framing_numbers}
use Rattle.rules_ffi_results.specs.Heads.{counted, ending, line_end}

-- what goes: 1 as it came, 2 to fetch what may be stored, 3 to confirm, 4 to fetch without the client's conditions and range; its method and lines
pub record Goes : Type 0 where
  pub what : ℕ
  pub method : List ℕ
  pub lines : List Field

abbrev pub filling : ℕ → List ℕ × List Field → Goes
filling what f = record { what = what; method = f.0; lines = f.1 }

abbrev pub again : List ℕ × List Field → Goes
again f = record { what = 4; method = f.0; lines = without (codes "range" ∷ []) (without conditions f.1) }

-- where there is nothing to confirm by it is fetched
abbrev pub confirming : Option (List Field) → Asked → Chosen → Goes
confirming None a o = filling 2 (fill a o)
confirming (Some lines) a o = record { what = 3; method = a.method; lines = lines }

abbrev pub going : ℕ → Asked → KeptHead → Chosen → Option Goes
going what a kept o =
    if what == 1 then Some (record { what = 1; method = a.method; lines = a.lines })
    else (if what == 2 then Some (filling 2 (fill a o))
    else (if what == 3 then Some (confirming (validate a kept) a o)
    else (if what == 4 then Some (again (fill a o)) else None)))

abbrev pub framing_text : Framing → List ℕ
framing_text (Length n) = counted (codes "Content-Length") n ++ ending 0 false
framing_text Chunked = ending 2 false
framing_text _ = ending 0 false

-- the host that the origin is sent: the operator's for it, or the request's
abbrev pub host_sent : Chosen → List ℕ → List ℕ
host_sent o host = if is_filled o.origin_host then o.origin_host else host

-- the target, behind the operator's prefix; `*` is no path
abbrev pub target_sent : Chosen → List ℕ → List ℕ
target_sent o target = if bytes_eq target (codes "*") then target else o.origin_prefix ++ target

abbrev pub sent_request : Goes → Asked → Chosen → Asked
sent_request g a o = record a { method = g.method; host = host_sent o a.host; lines = g.lines }

unfoldable pub written : Goes → Asked → List ℕ → Chosen → List ℕ
written g a peer o =
    g.method ++ (32 ∷ []) ++ target_sent o a.target ++ codes " HTTP/1.1" ++ line_end ++ block (forward (sent_request g a o) peer o) ++ framing_text a.framing

abbrev pub told_sent : Goes → Asked → List ℕ → List ℕ × Out
told_sent g a text = (
  text,
  record (blank 67 0) {
    framing = (framing_numbers a.framing).0;
    length = (framing_numbers a.framing).1;
    marks = mark (bytes_eq g.method (codes "HEAD")) 8;
    choice = g.what;
    head = behind 0 text;
  },
)

unfoldable pub sent_in : OptionNumbers → List ℕ → RequestShape → List ℕ → ℕ → HeadShape → List ℕ → List ℕ → Option (List ℕ × Out)
sent_in n words q text what h lines_text peer = do
  lists ← lists_in words
  o ← chosen_by n lists
  lines ← lines_in text q.lines
  request ← asked_by q text lines o.scheme
  stored ← block_lines lines_text
  kept ← kept_by h stored
  client ← value_in peer
  g ← going what request kept o
  Some (told_sent g request (written g request client o))
