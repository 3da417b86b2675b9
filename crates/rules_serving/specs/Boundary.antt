-- The boundary between several parts (RFC 2046, 5.1.1): nobody who doesn't know the secret can write it into a body before it is sent.
use Rattle.std.specs.Prelude.{ℕ, ◌/◌, ◌%◌, ◌&&◌, List, [], ◌++◌, codes, Option, Result, Ok, Err}
use Rattle.std.specs.Int.{w64, to_be_bytes}
use Rattle.hex.specs.Hex.{decode_of, encode_lower}
use Rattle.hex.specs.declared.error.FromHexError.{FromHexError}
use Rattle.cache_words.specs.Blake.{blake2b_128}
use Rattle.rules_fields.specs.Texts.{is_filled}
use Rattle.rules_fields.specs.Rows.{when}
use Rattle.rules_fields.specs.Fields.{has_line}
use Rattle.rules_fields.specs.Types.{Asked, Chosen}
use Rattle.rules_storage.specs.Ages.{second}
use Rattle.rules_reuse.specs.Keys.{key_of}

abbrev pub or_nothing : Result (List ℕ) FromHexError → List ℕ
or_nothing (Ok bytes) = bytes
or_nothing (Err e) = []

-- the bytes that hexadecimal digits say
abbrev pub bytes_of : List ℕ → List ℕ
bytes_of digits = or_nothing (decode_of digits)

-- the bytes of the secret, the moment's seconds and nanoseconds as eight bytes each, the most significant first, and the request's key
abbrev pub message : Asked → ℕ → Chosen → List ℕ
message request now o =
    bytes_of o.secret ++ to_be_bytes w64 (now / second) ++ to_be_bytes w64 (now % second)
    ++ key_of request.scheme request.host request.target o

-- their BLAKE2b of 16 bytes, in small hexadecimal digits
unfoldable pub boundary_of : Asked → ℕ → Chosen → List ℕ
boundary_of request now o = encode_lower (blake2b_128 (message request now o))

-- none without a secret; it is made where the request has a Range
abbrev pub boundary_in : Asked → ℕ → Chosen → Option (List ℕ)
boundary_in request now o = when (is_filled o.secret && has_line (codes "range") request.lines) (boundary_of request now o)
