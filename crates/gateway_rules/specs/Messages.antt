-- What is sent: a text with a head, what stands in front of parts, and what follows them; and the parts.
use Rattle.std.specs.Prelude.{ℕ, ◌-◌, Bool, not, ◌&&◌, ◌||◌, nat_lt, if◌then◌else◌, List, [], ◌++◌, length, take, codes}
use Rattle.rules_ffi_arguments.specs.Options.{has_mark}
use Rattle.rules_ffi_arguments.specs.Rooms.{behind}
use Rattle.rules_ffi_arguments.specs.declared.shapes.Span.{Span}
use Rattle.rules_ffi_arguments.specs.declared.shapes.PartShape.{PartShape}
use Rattle.rules_ffi_arguments.specs.declared.shapes.Out.{Out}
use Rattle.rules_ffi_results.specs.Numbers.{nowhere}
use Rattle.rules_ffi_results.specs.Sending.{Answered}
use Rattle.gateway_rules.specs.Values.{text_of}
use Rattle.gateway_rules.specs.declared.values.Message.{Message}

pub record MessageValue : Type 0 where
  pub text : List ℕ
  pub head : Span
  pub tail : Span
  pub parts : List PartShape
  pub status : ℕ
  pub framing : ℕ
  pub closes : Bool

abbrev pub message_of : Message → MessageValue
message_of m = record {
  text = m.text.items;
  head = m.head;
  tail = m.tail;
  parts = m.parts.items;
  status = m.status_code;
  framing = m.framing;
  closes = m.closes;
}

-- its head says that the connection ends
abbrev pub says_close : Out → Bool
says_close out = has_mark out.marks 1

-- what an answer is sent as
abbrev pub sent_as : Answered → MessageValue
sent_as a = record {
  text = a.text;
  head = a.told.head;
  tail = a.told.more;
  parts = a.parts;
  status = a.told.code;
  framing = a.told.framing;
  closes = says_close a.told;
}

-- a head that says that the connection ends: that stands in front of the empty line
abbrev pub closing : List ℕ → List ℕ
closing head = take (length head - 2) head ++ codes "Connection: close\r\n\r\n"

abbrev pub own_head : Bool → List ℕ → Out → List ℕ
own_head closes head out = if closes && not (says_close out) then closing head else head

abbrev pub own_text : Bool → List ℕ × Out → List ℕ
own_text closes told = own_head closes (text_of told.0 told.1.head) told.1 ++ text_of told.0 told.1.more

-- an answer of the gateway's own is all head: its body stands in it, behind the head's end
abbrev pub own_message : Bool → List ℕ × Out → MessageValue
own_message closes told = record {
  text = own_text closes told;
  head = behind 0 (own_text closes told);
  tail = nowhere;
  parts = [];
  status = told.1.code;
  framing = 1;
  closes = closes || says_close told.1;
}
