-- A plain response to a GET, as most are (RFC 9112, 4, 5 and 6.3): its status is final, its lines are `name: value`, and at most one of them is Date, one Connection, one Content-Length and one Transfer-Encoding. Bytes are numbers: 10 a LF, 13 a CR.
use Rattle.std.specs.Prelude.{ℕ, ◌+◌, Bool, true, false, not, ◌&&◌, ◌||◌, ◌==◌, if◌then◌else◌, List, [], ◌∷◌, ◌++◌, codes, bytes_eq, Option, Some, option_map}
use Rattle.rules_fields.specs.Tables.{hop}
use Rattle.rules_fields.specs.Fields.{Field, without}
use Rattle.rules_fields.specs.declared.types.Framing.{Framing}
use Rattle.rules_fields.specs.declared.types.Framing.TheVariants.{Length, Chunked, Close}
use Rattle.http1_message_parts.specs.Body.{length_of}
use Rattle.http1_message_parts.specs.Via.{own_via}
use Rattle.http1_message.specs.Response.{is_till_close}
use Rattle.rules_ffi_arguments.specs.Rooms.{block}
use Rattle.rules_ffi_arguments.specs.declared.shapes.ResponseShape.{ResponseShape}
use Rattle.rules_ffi_results.specs.Numbers.{mark, framing_numbers}

-- the fields with which a response isn't plain: Via, whose lines become one, and one that Connection may name
abbrev pub watched : List (List ℕ)
watched = codes "close" ∷ codes "via" ∷ []

-- a head, by its status line without CR LF, and what follows it
abbrev pub head_then : List ℕ → List Field → List ℕ → List ℕ
head_then start lines rest = start ++ (13 ∷ 10 ∷ (block lines ++ (13 ∷ 10 ∷ rest)))

-- how its body ends, by the values of Content-Length and of Transfer-Encoding
abbrev pub framing_by : ℕ → List (List ℕ) → List (List ℕ) → Option Framing
framing_by minor [] [] = Some Close
framing_by minor (v ∷ []) [] = option_map Length (length_of v)
framing_by minor [] (c ∷ []) = if not (minor == 0) && bytes_eq c (codes "chunked") then Some Chunked else Option.None
framing_by _ _ _ = Option.None

-- 204 and 304 have no body
abbrev pub plain_framing : ℕ → ℕ → List (List ℕ) → List (List ℕ) → Option Framing
plain_framing minor status lengths codings = if status == 204 || status == 304 then Some Framing.None else framing_by minor lengths codings

-- the lines that go on
abbrev pub staying : List Field → List Field
staying lines = without (codes "content-length" ∷ []) (without hop lines)

-- Date, where none came
abbrev pub own_date : List ℕ → List (List ℕ) → List Field
own_date date [] = (codes "Date", date) ∷ []
own_date date (came ∷ dates) = []

-- and those that are added
abbrev pub added : ℕ → List ℕ → List ℕ → List (List ℕ) → List Field
added minor name date dates = (codes "Via", own_via minor name) ∷ own_date date dates

-- a field came
abbrev pub has_any : List (List ℕ) → Bool
has_any [] = false
has_any (v ∷ vs) = true

-- the connection ends behind it: Connection may say so
abbrev pub ends : ℕ → Bool → Framing → Bool
ends minor says f = minor == 0 || says || is_till_close f

-- its shape: `lines` bytes of lines go on
abbrev pub plain_shape : ℕ → ℕ → Framing → Bool → Bool → ℕ → ℕ → ResponseShape
plain_shape minor status f closes dated lines used = record {
  status = 65;
  needed = 0;
  used = used;
  reason = 0;
  code = status;
  minor = minor;
  framing = (framing_numbers f).0;
  length = (framing_numbers f).1;
  marks = mark closes 1 + mark dated 64;
  lines = record { from = 0; to = lines };
  whole = record { from = 0; to = lines };
  reserved = 0 ∷ 0 ∷ 0 ∷ [];
}
