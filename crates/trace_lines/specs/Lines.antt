-- What a line requests: the fields of its operation, or the first refusal that holds.
use Rattle.std.specs.Prelude.{◌≡◌, ℕ, ◌^◌, pos, nat_lt, Bool, false, List, [], ◌∷◌, codes, if◌then◌else◌, Option, Some, None, option_map, option_and_then, Result, Ok, Err}
use Rattle.std.specs.Result.{result_ok}
use Rattle.std.specs.Str.{bytes_eq, is_utf8}
use Rattle.hex.specs.Hex.{decode_of, decode_sized}
use Rattle.serde_json.specs.Data.{Data, Items, no_items, item, Members}
use Rattle.serde_json.specs.Find.{get, as_array, as_bool, as_number, as_object, as_str, as_u64}
use Rattle.serde_json.specs.Read.{read}
use Rattle.cache_words.specs.Time.{MomentValue, from_seconds}
use Rattle.cache_words.specs.Key.{CacheKeyValue}
use Rattle.cache_heads.specs.declared.given.GivenMeta.{GivenMeta}
use Rattle.tier_model.specs.declared.event.Event.{Event}
use Rattle.tier_model.specs.declared.event.Action.{Action}
use Rattle.tier_model.specs.declared.event.Action.TheVariants.{Open, LookUp, Poll, Begin, Revalidate, Piece, Finish, Read, Drop, Purge, Put}
use Rattle.trace_lines.specs.declared.line.Line.{Line}
use Rattle.trace_lines.specs.declared.line.Line.TheVariants as lines
use Rattle.trace_lines.specs.declared.line.Refusal.{Refusal}
use Rattle.trace_lines.specs.declared.line.Refusal.TheVariants.{NotJson, NotObject, Op, Field}
use Rattle.trace_lines.specs.declared.line.FieldName.{FieldName}
use Rattle.trace_lines.specs.declared.line.FieldName.TheVariants.{At, Id, Key, Digest, Variance, Tag, Lock, Head, Bytes, End, Pieces, Until, Created, Updated, Provenance, While, Error, External}
use Rattle.trace_lines.specs.declared.line.Operation.{Operation}
use Rattle.trace_lines.specs.declared.line.Operation.TheVariants as op
use Rattle.trace_lines.specs.declared.line.Stop.{Stop}
use Rattle.trace_lines.specs.declared.line.Stop.TheVariants as stop

-- the next step, unless the line was refused
infixl 10 ◌>>=◌
abbrev pub ◌>>=◌ : {A B : Type 0} → Result A Refusal → (A → Result B Refusal) → Result B Refusal
Ok x >>= f = f x
Err r >>= f = Err r

-- a value, or else this refusal
abbrev pub or_refused : {A : Type 0} → Refusal → Option A → Result A Refusal
or_refused refusal None = Err refusal
or_refused refusal (Some x) = Ok x

-- a whole number from 0 to 2^64 - 1
abbrev pub number_of : Option Data → Option ℕ
number_of value = option_and_then as_u64 (option_and_then as_number value)

abbrev pub text_of : Option Data → Option (List ℕ)
text_of value = option_and_then as_str value

-- seconds since 1970 began, at most 2^63 - 1
abbrev pub moment_at : ℕ → Option MomentValue
moment_at n = if nat_lt n (2 ^ 63) then Some (from_seconds (pos n)) else None

abbrev pub moment_in : FieldName → Option Data → Result MomentValue Refusal
moment_in field value = or_refused (Field field) (option_and_then moment_at (number_of value))

abbrev pub moment_of : Data → Result MomentValue Refusal
moment_of d = moment_in At (get (codes "at") d)

abbrev pub id_of : Data → Result ℕ Refusal
id_of d = or_refused (Field Id) (number_of (get (codes "id") d))

-- the bytes that pairs of hex digits of either case spell
abbrev pub hex_bytes : List ℕ → Option (List ℕ)
hex_bytes text = result_ok (decode_of text)

-- the bytes that a field spells so
abbrev pub spelled_in : FieldName → Option Data → Result (List ℕ) Refusal
spelled_in field value = or_refused (Field field) (option_and_then hex_bytes (text_of value))

-- true or false, and false where the field is left out
abbrev pub flag_in : FieldName → Option Data → Result Bool Refusal
flag_in field None = Ok false
flag_in field (Some d) = or_refused (Field field) (as_bool d)

-- any text, and the empty one where the field is left out
abbrev pub tag_in : Option Data → Option (List ℕ)
tag_in None = Some []
tag_in (Some d) = as_str d

abbrev pub tag_of : Data → Result (List ℕ) Refusal
tag_of d = or_refused (Field Tag) (tag_in (get (codes "tag") d))

-- whether a request asks for the permit to write
abbrev pub lock_of : Data → Result Bool Refusal
lock_of d = flag_in Lock (get (codes "lock") d)

-- the bytes that a key names, and its tag
abbrev pub key_of : Data → Result CacheKeyValue Refusal
key_of d = do
  primary ← spelled_in Key (get (codes "key") d)
  tag ← tag_of d
  Ok (record { primary = primary; primary_bin_override = None; variance = None; user_tag = tag })

-- the head of a response
abbrev pub head_of : Data → Result (List ℕ) Refusal
head_of d = spelled_in Head (get (codes "head") d)

-- the bytes of a part of a body
abbrev pub part_of : Data → Result (List ℕ) Refusal
part_of d = spelled_in Bytes (get (codes "bytes") d)

-- whether the part is the last
abbrev pub end_of : Data → Result Bool Refusal
end_of d = flag_in End (get (codes "end") d)

-- the bytes of a hex text, of either case
abbrev pub bytes_of : Data → Option (List ℕ)
bytes_of d = option_and_then hex_bytes (as_str d)

abbrev pub all_bytes_of : Items → Option (List (List ℕ))
all_bytes_of no_items = Some []
all_bytes_of (item d ds) = option_and_then (λ b. option_map (λ bs. b ∷ bs) (all_bytes_of ds)) (bytes_of d)

-- an array of hex texts
abbrev pub pieces_of : Data → Result (List (List ℕ)) Refusal
pieces_of d = or_refused (Field Pieces) (option_and_then all_bytes_of (option_and_then as_array (get (codes "pieces") d)))

-- a moment, and the usual one where the field is left out
abbrev pub moment_or : FieldName → MomentValue → Option Data → Result MomentValue Refusal
moment_or field usual None = Ok usual
moment_or field usual (Some d) = moment_in field (Some d)

-- a number below a bound, and 0 where the field is left out
abbrev pub count_in : FieldName → ℕ → Option Data → Result ℕ Refusal
count_in field bound None = Ok 0
count_in field bound (Some d) = or_refused (Field field) (option_and_then (λ n. if nat_lt n bound then Some n else None) (number_of (Some d)))

-- what a line that comes at a moment says of a response in place of the judgement: a moment until which it is fresh; when it was created,
-- updated and first stored, which is that moment where it is left out; its windows to be served stale; what its body has outside
abbrev pub given_of : MomentValue → Data → Result GivenMeta Refusal
given_of at d = do
  fresh_until ← moment_in Until (get (codes "until") d)
  created ← moment_or Created at (get (codes "created") d)
  updated ← moment_or Updated at (get (codes "updated") d)
  provenance ← moment_or Provenance created (get (codes "provenance") d)
  revalidate ← count_in While (2 ^ 32) (get (codes "while") d)
  error ← count_in Error (2 ^ 32) (get (codes "error") d)
  external ← count_in External (2 ^ 62) (get (codes "external") d)
  Ok (record {
    fresh_until = fresh_until;
    created = created;
    updated = updated;
    provenance = provenance;
    stale_while_revalidate_sec = revalidate;
    stale_if_error_sec = error;
    external = external;
  })

-- the 16 bytes of a hash, which 32 hex digits spell
abbrev pub hash_in : FieldName → Option Data → Result (List ℕ) Refusal
hash_in field value = or_refused (Field field) (option_and_then (λ text. result_ok (decode_sized text 16)) (text_of value))

-- none where the field is left out
abbrev pub variance_in : Option Data → Result (Option (List ℕ)) Refusal
variance_in None = Ok None
variance_in (Some d) = do
  hash ← hash_in Variance (Some d)
  Ok (Some hash)

-- a key as a cache keeps it: a hash in place of the bytes that it names, which are none; one of what the response varies by; and its tag
abbrev pub stored_key_of : Data → Result CacheKeyValue Refusal
stored_key_of d = do
  digest ← hash_in Digest (get (codes "digest") d)
  variance ← variance_in (get (codes "variance") d)
  tag ← tag_of d
  Ok (record { primary = []; primary_bin_override = Some digest; variance = variance; user_tag = tag })

abbrev pub operation_named : List ℕ → Option Operation
operation_named name =
    if bytes_eq name (codes "put") then Some op.Put
    else if bytes_eq name (codes "open") then Some op.Open
    else if bytes_eq name (codes "look") then Some op.LookUp
    else if bytes_eq name (codes "read") then Some op.Read
    else if bytes_eq name (codes "drop") then Some op.Drop
    else if bytes_eq name (codes "piece") then Some op.Piece
    else if bytes_eq name (codes "begin") then Some op.Begin
    else if bytes_eq name (codes "finish") then Some op.Finish
    else if bytes_eq name (codes "revalidate") then Some op.Revalidate
    else if bytes_eq name (codes "poll") then Some op.Poll
    else if bytes_eq name (codes "purge") then Some op.Purge
    else if bytes_eq name (codes "put-given") then Some op.PutGiven
    else if bytes_eq name (codes "begin-given") then Some op.BeginGiven
    else if bytes_eq name (codes "revalidate-given") then Some op.RevalidateGiven
    else if bytes_eq name (codes "restore") then Some op.Restore
    else None

abbrev pub operation_of : Data → Result Operation Refusal
operation_of d = or_refused Op (option_and_then operation_named (text_of (get (codes "op") d)))

-- what an operation requests at a moment, by its own fields alone
abbrev pub action_of : Operation → MomentValue → Data → Result Action Refusal
action_of op.Open at d = do
  id ← id_of d
  key ← key_of d
  lock ← lock_of d
  Ok (Open id key lock)
action_of op.LookUp at d = do
  id ← id_of d
  Ok (LookUp id)
action_of op.Poll at d = do
  id ← id_of d
  Ok (Poll id)
action_of op.Begin at d = do
  id ← id_of d
  head ← head_of d
  Ok (Begin id head None)
action_of op.Revalidate at d = do
  id ← id_of d
  head ← head_of d
  Ok (Revalidate id head None)
action_of op.Piece at d = do
  id ← id_of d
  bytes ← part_of d
  end ← end_of d
  Ok (Piece id bytes end)
action_of op.Finish at d = do
  id ← id_of d
  Ok (Finish id)
action_of op.Read at d = do
  id ← id_of d
  Ok (Read id)
action_of op.Drop at d = do
  id ← id_of d
  Ok (Drop id)
action_of op.Purge at d = do
  key ← key_of d
  Ok (Purge key)
action_of op.Put at d = do
  key ← key_of d
  pieces ← pieces_of d
  Ok (Put key pieces None)
action_of op.BeginGiven at d = do
  id ← id_of d
  head ← head_of d
  given ← given_of at d
  Ok (Begin id head (Some given))
action_of op.RevalidateGiven at d = do
  id ← id_of d
  head ← head_of d
  given ← given_of at d
  Ok (Revalidate id head (Some given))
action_of op.PutGiven at d = do
  key ← key_of d
  pieces ← pieces_of d
  given ← given_of at d
  Ok (Put key pieces (Some given))
action_of op.Restore at d = do
  key ← stored_key_of d
  pieces ← pieces_of d
  given ← given_of at d
  Ok (Put key pieces (Some given))

abbrev pub event_of : Operation → Data → Result Event Refusal
event_of operation d = do
  moment ← moment_of d
  action ← action_of operation moment d
  Ok (record { moment = moment; action = action })

-- the JSON value of some bytes
abbrev pub json_of : List ℕ → Result Data Refusal
json_of bytes = or_refused NotJson (if is_utf8 bytes then read bytes else None)

abbrev pub members_of : Data → Result Members Refusal
members_of d = or_refused NotObject (as_object d)

abbrev pub event_in : List ℕ → Result Event Refusal
event_in bytes = do
  d ← json_of bytes
  members ← members_of d
  operation ← operation_of d
  event_of operation d

abbrev pub as_line : Result Event Refusal → Line
as_line (Ok event) = lines.Accepted event
as_line (Err refusal) = lines.Refused refusal

-- what a line without its line feed requests
abbrev pub line_of : List ℕ → Line
line_of bytes = as_line (event_in bytes)

-- what was read, seen so, or why nothing was, is what was wanted; memory may have run out instead
abbrev pub IsReadAs : {A B : Type 0} → (A → B) → Result A Stop → Result B Refusal → Type 0
IsReadAs view (Ok x) wanted = wanted ≡ Ok (view x)
IsReadAs view (Err (stop.Refused refusal)) wanted = wanted ≡ Err refusal
IsReadAs view (Err stop.Memory) wanted = Unit {0}

abbrev pub IsRead : {A : Type 0} → Result A Stop → Result A Refusal → Type 0
IsRead read wanted = IsReadAs (λ x. x) read wanted
