-- What the value of a word may be. Bytes are numbers: 32 a space.
use Rattle.std.specs.Prelude.{ℕ, ◌-◌, ◌%◌, Bool, not, ◌&&◌, ◌||◌, ◌==◌, nat_lt, if◌then◌else◌, List, [], ◌∷◌, length, take, drop, codes, bytes_eq, Option, Some, None}
use Rattle.std.specs.List.{position_or_len, list_all}
use Rattle.std.specs.Char.{is_ascii_hexdigit}
use Rattle.httparse.specs.Grammar.{is_token}
use Rattle.rules_fields.specs.Texts.{small}
use Rattle.rules_fields.specs.Numbers.{digits}
use Rattle.rules_fields.specs.Tables.{among}
use Rattle.rules_fields.specs.Fields.{elements_of}
use Rattle.rules_fields.specs.declared.types.StatusLifetime.{StatusLifetime}
use Rattle.http1_message_parts.specs.Start.{is_target_byte}
use Rattle.rules_ffi_arguments.specs.Given.{◌>>=◌}

-- a status and seconds, with a space between
abbrev pub status_lifetime : ℕ → ℕ → Option StatusLifetime
status_lifetime status seconds = if nat_lt status 100 || nat_lt 999 status then None else Some (record { status = status; seconds = seconds })

abbrev pub lifetime_from : List ℕ → List ℕ → Option StatusLifetime
lifetime_from before [] = None
lifetime_from before (space ∷ after) = do
  status ← digits before
  seconds ← digits after
  status_lifetime status seconds

abbrev pub lifetime_in : List ℕ → Option StatusLifetime
lifetime_in text = let n = position_or_len (λ b. b == 32) text in lifetime_from (take n text) (drop n text)

-- a status: a number of three digits
abbrev pub status_in : List ℕ → Option ℕ
status_in text = digits text >>= λ status. if nat_lt status 100 || nat_lt 999 status then None else Some status

abbrev pub is_small_token : List ℕ → Bool
is_small_token text = is_token text && bytes_eq (small text) text

abbrev pub is_short_token : List ℕ → Bool
is_short_token text = is_token text && not (nat_lt 70 (length text))

-- the hexadecimal digits of 16 to 64 bytes
abbrev pub is_secret : List ℕ → Bool
is_secret text =
    not (nat_lt (length text) 32) && not (nat_lt 128 (length text)) && length text % 2 == 0 && list_all is_ascii_hexdigit text

-- a slash, and bytes of a path, of which the last is no slash. Bytes are numbers: 35 `#`, 47 a slash, 63 `?`
abbrev pub is_prefix_byte : ℕ → Bool
is_prefix_byte b = is_target_byte b && not (b == 35) && not (b == 63)

abbrev pub is_prefix : List ℕ → Bool
is_prefix text = bytes_eq (take 1 text) (codes "/") && not (bytes_eq (drop (length text - 1) text) (codes "/")) && list_all is_prefix_byte text

-- yes or no
abbrev pub is_yes : List ℕ → Bool
is_yes value = bytes_eq value (codes "yes")

abbrev pub is_yes_or_no : List ℕ → Bool
is_yes_or_no value = is_yes value || bytes_eq value (codes "no")

-- a byte of the name of a query's part. Bytes are numbers: 35 `#`, 38 `&`, 61 `=`
abbrev pub is_query_byte : ℕ → Bool
is_query_byte b = is_target_byte b && not (b == 35) && not (b == 38) && not (b == 61)

-- a coding by its name: `x-gzip` is gzip (RFC 9110, 8.4.1.3)
abbrev pub is_encoding : List ℕ → Bool
is_encoding text = is_small_token text && not (bytes_eq text (codes "*")) && not (bytes_eq text (codes "x-gzip"))

-- one to four of them, between commas
abbrev pub are_encodings : List ℕ → Bool
are_encodings value =
    list_all is_encoding (elements_of value) && not (length (elements_of value) == 0) && not (nat_lt 4 (length (elements_of value)))

-- the fields of a response that frame it, or by which what is stored is read and chosen
abbrev pub undroppable : List (List ℕ)
undroppable =
    codes "content-length" ∷ codes "transfer-encoding" ∷ codes "connection" ∷ codes "content-range" ∷ codes "content-encoding" ∷ codes "date" ∷ codes "vary" ∷ []

abbrev pub is_droppable : List ℕ → Bool
is_droppable name = is_small_token name && not (among undroppable (small name))
