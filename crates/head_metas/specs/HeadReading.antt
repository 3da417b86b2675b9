-- Reading the head of a response, with the first fault that is met.
use Rattle.std.specs.Prelude.{◌≡◌, ℕ, zero, suc, Bool, ◌&&◌, nat_lt, nat_le, if◌then◌else◌, List, [], length, Result, Ok, Err}
use Rattle.std.specs.List.{list_all}
use Rattle.http_header.specs.HeaderMap.{Entries, append}
use Rattle.http_header.specs.FieldName.{is_field_name}
use Rattle.http_header.specs.FieldValue.{FieldValue, plain_value}
use Rattle.http_header.specs.Token.{lowercase, is_value_byte}
use Rattle.cache_words.specs.declared.pack.fault.PackFault.{PackFault}
use Rattle.cache_words.specs.declared.pack.fault.PackFault.TheVariants.{Kind, Range, Length}
use Rattle.cache_words.specs.Forms.{numbers, arrays}
use Rattle.cache_words.specs.Reading.{◌>>=◌, number_at, array_of_at, text_at, bytes_at}
use Rattle.head_lines.specs.declared.header.ResponseHeader.{ResponseHeader}
use Rattle.head_metas.specs.declared.fault.MetaReadFault.{MetaReadFault}
use Rattle.head_metas.specs.declared.fault.MetaReadFault.TheVariants.{Memory, Pack}
use Rattle.head_metas.specs.Head.{most_names}

-- bytes that are a name, in any case
unfoldable pub is_name : List ℕ → Bool
is_name bytes = is_field_name bytes

-- bytes that are a value
unfoldable pub is_value : List ℕ → Bool
is_value bytes = list_all is_value_byte bytes

abbrev pub field_name_of : List ℕ → Result (List ℕ) PackFault
field_name_of bytes = if is_name bytes then Ok (lowercase bytes) else Err Kind

abbrev pub field_value_of : List ℕ → Result FieldValue PackFault
field_value_of bytes = if is_value bytes then Ok (plain_value bytes) else Err Kind

unfoldable pub line_at : List ℕ → Result ((List ℕ × FieldValue) × List ℕ) PackFault
line_at bytes = do
  rest ← array_of_at 2 bytes
  text ← text_at rest
  name ← field_name_of text.0
  string ← bytes_at text.1
  value ← field_value_of string.0
  Ok ((name, value), string.1)

-- the map with one more line
unfoldable pub with_line : Entries FieldValue → List ℕ × FieldValue → Result (Entries FieldValue) PackFault
with_line m line =
    if nat_lt most_names (length (append m line.0 line.1)) then Err Length
    else Ok (append m line.0 line.1)

-- the map with n more lines
unfoldable pub lines_at : ℕ → Entries FieldValue → List ℕ → Result (Entries FieldValue × List ℕ) PackFault
lines_at zero m bytes = Ok (m, bytes)
lines_at (suc n) m bytes = do
  line ← line_at bytes
  more ← with_line m line.0
  lines_at n more line.1

unfoldable pub status_at : List ℕ → Result (ℕ × List ℕ) PackFault
status_at bytes = do
  n ← number_at numbers bytes
  if nat_le 100 n.0 && nat_lt n.0 1000 then Ok n else Err Range

unfoldable pub head_at : List ℕ → Result (ResponseHeader × List ℕ) PackFault
head_at bytes = do
  rest ← array_of_at 2 bytes
  status ← status_at rest
  n ← number_at arrays status.1
  headers ← lines_at n.0 [] n.1
  Ok (record { status = status.0; headers = headers.0 }, headers.1)

-- a fault is the one that reading gives, unless memory ran out
abbrev pub Fails : {X : Type 0} → MetaReadFault → Result X PackFault → Type 0
Fails Memory read = Unit {0}
Fails (Pack fault) read = read ≡ Err fault

-- what was returned is what reading gives, unless memory ran out
abbrev pub Gives : {X : Type 0} → Result X MetaReadFault → Result X PackFault → Type 0
Gives (Ok x) read = read ≡ Ok x
Gives (Err e) read = Fails e read

-- what was returned, and what is left, is what reading gives, unless memory ran out
abbrev pub StepsTo : {X : Type 0} → (List ℕ → Result (X × List ℕ) PackFault) → List ℕ → List ℕ → Result X MetaReadFault → Type 0
StepsTo read old new (Ok x) = read old ≡ Ok (x, new)
StepsTo read old new (Err e) = Fails e (read old)
