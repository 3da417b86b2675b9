-- The lines of a chunked body (RFC 9112, 7.1): chunk-size, chunk-ext, CRLF, and the CRLF behind chunk-data.
-- Bytes are numbers: 10 a LF, 13 a CR, 59 a semicolon.
use Rattle.std.specs.Prelude.{ℕ, ◌+◌, ◌*◌, ◌^◌, Bool, true, false, ◌&&◌, ◌==◌, nat_lt, if◌then◌else◌, List, [], ◌∷◌, Option, Some, None}
use Rattle.std.specs.Char.{is_ascii_hexdigit, digit_value}
use Rattle.httparse.specs.Grammar.{is_ows, is_value_byte}
use Rattle.rules_ffi_results.specs.declared.chunk.Place.{Place}
use Rattle.rules_ffi_results.specs.declared.chunk.Place.TheVariants.{Start, Size, Blank, Extension, SizeEnd, Data, DataCr, DataLf, Trailers, Over, Broken}
use Rattle.rules_ffi_results.specs.declared.chunk.Chunk.{Chunk}

-- the places in a caller's struct, as numbers
abbrev pub number : Place → ℕ
number Start = 0
number Size = 1
number Blank = 2
number Extension = 3
number SizeEnd = 4
number Data = 5
number DataCr = 6
number DataLf = 7
number Trailers = 8
number Over = 9
number Broken = 10

abbrev pub place_of : ℕ → Option Place
place_of n =
    if n == 0 then Some Start
    else (if n == 1 then Some Size
    else (if n == 2 then Some Blank
    else (if n == 3 then Some Extension
    else (if n == 4 then Some SizeEnd
    else (if n == 5 then Some Data
    else (if n == 6 then Some DataCr
    else (if n == 7 then Some DataLf
    else (if n == 8 then Some Trailers
    else (if n == 9 then Some Over
    else (if n == 10 then Some Broken
    else None))))))))))

-- lines end before data and trailers, and where the body is over or broken
abbrev pub is_line : Place → Bool
is_line Data = false
is_line Trailers = false
is_line Over = false
is_line Broken = false
is_line _ = true

abbrev pub at_place : Place → Chunk → Chunk
at_place place c = record c { place = place }

-- one byte alone may stand there
abbrev pub only : ℕ → Place → ℕ → Place
only wanted next b = if b == wanted then next else Broken

-- behind chunk-size: blanks, chunk-ext from its semicolon on, or the end of the line
abbrev pub behind_size : ℕ → Place
behind_size b = if is_ows b then Blank else (if b == 59 then Extension else only 13 SizeEnd b)

-- chunk-size = 1*HEXDIG, below 2^63
abbrev pub with_digit : Chunk → ℕ → Chunk
with_digit c digit = if nat_lt c.size (2 ^ 59) then record c { place = Size; size = c.size * 16 + digit } else at_place Broken c

abbrev pub at_start : Chunk → ℕ → Chunk
at_start c b = if is_ascii_hexdigit b then with_digit (record c { size = 0 }) (digit_value b) else at_place Broken c

abbrev pub in_size : Chunk → ℕ → Chunk
in_size c b = if is_ascii_hexdigit b then with_digit c (digit_value b) else at_place (behind_size b) c

-- extensions aren't looked into: bytes of a value up to a CR, in all chunks together at most so many
abbrev pub in_extension : ℕ → Chunk → ℕ → Chunk
in_extension most c b =
    if b == 13 then at_place SizeEnd c
    else (if is_value_byte b && nat_lt c.extensions most then record c { extensions = c.extensions + 1 } else at_place Broken c)

-- behind the line: trailers where it is that of the last chunk, else data
abbrev pub behind_line : ℕ → Place
behind_line size = if size == 0 then Trailers else Data

abbrev pub after_at : Place → ℕ → Chunk → ℕ → Chunk
after_at Start most c b = at_start c b
after_at Size most c b = in_size c b
after_at Blank most c b = at_place (behind_size b) c
after_at Extension most c b = in_extension most c b
after_at SizeEnd most c b = at_place (only 10 (behind_line c.size) b) c
after_at DataCr most c b = at_place (only 13 DataLf b) c
after_at DataLf most c b = at_place (only 10 Start b) c
after_at place most c b = c

-- what a byte makes of a chunk; `most` bytes may be in extensions
abbrev pub after : ℕ → Chunk → ℕ → Chunk
after most c b = after_at c.place most c b

-- the lines in front of data, trailers or a fault: the chunk behind them, and the place behind their bytes, of which the first has place n
abbrev pub lines_from : ℕ → ℕ → Chunk → List ℕ → Chunk × ℕ
lines_from n most c [] = (c, n)
lines_from n most c (b ∷ bytes) = if is_line c.place then lines_from (n + 1) most (after most c b) bytes else (c, n)

abbrev pub lines : ℕ → Chunk → List ℕ → Chunk × ℕ
lines most c bytes = lines_from 0 most c bytes

-- what hexadecimal digits are as a number, behind those that stand for `value`
abbrev pub hex_value : ℕ → List ℕ → ℕ
hex_value value [] = value
hex_value value (digit ∷ digits) = hex_value (value * 16 + digit_value digit) digits

abbrev pub chunk_at : Place → ℕ → ℕ → Chunk
chunk_at place size extensions = record { place = place; size = size; extensions = extensions }
