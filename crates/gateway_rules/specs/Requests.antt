-- A client's request: read, sent to the origin, and answered by the gateway itself. Bytes are numbers: 58 is a colon.
use Rattle.std.specs.Prelude.{ℕ, Bool, not, ◌&&◌, ◌||◌, ◌==◌, nat_le, nat_lt, if◌then◌else◌, List, [], ◌∷◌, ◌++◌, length, take, codes, bytes_eq, Option, Some, None, option_map}
use Rattle.std.specs.List.{list_any, list_all}
use Rattle.rules_fields.specs.Texts.{small}
use Rattle.http1_message_parts.specs.Lines.{lines_of}
use Rattle.rules_ffi_arguments.specs.Options.{has_mark}
use Rattle.rules_ffi_arguments.specs.declared.shapes.HeadShape.{HeadShape}
use Rattle.rules_ffi_arguments.specs.declared.shapes.Out.{Out}
use Rattle.rules_ffi.specs.Requests.{head_length, asked_in}
use Rattle.rules_ffi.specs.Sends.{sent_in}
use Rattle.rules_ffi.specs.Plains.{plain_in}
use Rattle.rules_ffi.specs.Keys.{ended, purged_in}
use Rattle.gateway_rules.specs.Options.{Options}
use Rattle.gateway_rules.specs.Values.{Asked, Came, request_of}
use Rattle.gateway_rules.specs.Messages.{MessageValue, own_message}
use Rattle.gateway_rules.specs.declared.requests.ParsedRequest.{ParsedRequest}
use Rattle.gateway_rules.specs.declared.requests.ParsedRequest.TheVariants.{More, Head}
use Rattle.gateway_rules.specs.declared.values.SentRequest.{SentRequest}

-- a request, or None: more of it is to come
abbrev pub parsed_of : ParsedRequest → Option Asked
parsed_of More = None
parsed_of (Head h) = Some (request_of h)

-- no head ends here, by what stands from a place on, and it isn't too long for one
abbrev pub is_unended : Options → List ℕ → ℕ → Bool
is_unended o bytes looked = head_length looked bytes == 0 && nat_le (length bytes) o.numbers.most_head

abbrev pub heard : Asked → Option Asked
heard q = if q.1.status == 64 then None else Some q

-- what the bytes give of a request; so many of them were looked at before
unfoldable pub parsed_in : Options → List ℕ → ℕ → Option (Option Asked)
parsed_in o bytes looked = if is_unended o bytes looked then Some None else option_map heard (asked_in o.numbers o.words bytes)

-- a line that begins so, in small letters
abbrev pub begins : List ℕ → List ℕ → Bool
begins name line = bytes_eq (small (take (length name) line)) name

abbrev pub has_line : List ℕ → List ℕ → Bool
has_line name text = list_any (begins name) (lines_of text)

-- the head of a request to the origin, and what is known of it. `fetch`: 1 pass, 2 full, 3 conditional, 4 unconditional
pub record SentValue : Type 0 where
  pub head : List ℕ
  pub fetch : ℕ
  pub framing : ℕ
  pub is_head : Bool
  pub is_conditional : Bool
  pub has_range : Bool

abbrev pub sent_of : SentRequest → SentValue
sent_of s = record {
  head = s.head.items;
  fetch = s.fetch;
  framing = s.framing;
  is_head = s.is_head;
  is_conditional = s.is_conditional;
  has_range = s.has_range;
}

abbrev pub sent_value : List ℕ × Out → SentValue
sent_value told = record {
  head = told.0;
  fetch = told.1.choice;
  framing = told.1.framing;
  is_head = has_mark told.1.marks 8;
  is_conditional = has_line (codes "if-none-match:") told.0 || has_line (codes "if-modified-since:") told.0;
  has_range = has_line (codes "range:") told.0;
}

-- what goes to the origin for a request, by what was found
abbrev pub forwarded_in : Options → Asked → ℕ → HeadShape × List ℕ → List ℕ → Option SentValue
forwarded_in o q what found peer = option_map sent_value (sent_in o.numbers o.words q.1 q.0 what found.0 found.1 peer)

-- reasons from 1000 on have no name in the rules: there was no answer
abbrev pub known_reason : ℕ → ℕ
known_reason reason = if nat_lt reason 1000 then reason else 50

-- an answer of the gateway's own, by the text of a date
abbrev pub own_in : Options → Asked → ℕ → ℕ → Bool → List ℕ → Option MessageValue
own_in o q code reason closes date = option_map (own_message closes) (plain_in o.numbers o.words q.1 code (known_reason reason) date)

abbrev pub all_but_last : List (List ℕ) → List (List ℕ)
all_but_last [] = []
all_but_last (line ∷ []) = []
all_but_last (line ∷ lines) = line ∷ all_but_last lines

-- the texts in front of each LF
abbrev pub ended_lines : List ℕ → List (List ℕ)
ended_lines text = all_but_last (lines_of text)

-- no LF stands in it
abbrev pub is_key : List ℕ → Bool
is_key key = list_all (λ b. not (b == 10)) key

-- the keys that a response makes out of date, as their list is read back
abbrev pub invalidated_in : Options → Asked → Came → Option (List (List ℕ))
invalidated_in o q r = option_map (λ keys. ended_lines (ended keys)) (purged_in o.numbers o.words q.1 q.0 r.1 r.0)
