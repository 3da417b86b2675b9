-- The chunked coding, as RFC 9112, 7.1 writes it. Bytes are numbers: 13 and 10 end a line, 59 is a semicolon, 32 and 9 are
-- blanks.
use Rattle.std.specs.Prelude.{ℕ, ◌<◌, ◌≡◌, Bool, true, false, not, ◌&&◌, ◌||◌, ◌==◌, List, [], ◌∷◌, ◌++◌, length}
use Rattle.std.specs.List.{list_all, flat_map}
use Rattle.std.specs.Str.Parse.{IsNumeral, digits_value}
use Rattle.gateway_frames.specs.Frames.{line_end}

abbrev pub is_in_line : ℕ → Bool
is_in_line b = not (b == 13) && not (b == 10)

-- chunk-ext begins with a semicolon, or with a blank in front of one; recipients pass over it (7.1.1)
abbrev pub begins_extension : ℕ → Bool
begins_extension b = b == 59 || (b == 32 || b == 9)

abbrev pub is_extension : List ℕ → Bool
is_extension [] = true
is_extension (b ∷ bytes) = begins_extension b && list_all is_in_line bytes

-- chunk-size [ chunk-ext ], in front of chunk-data
pub record Chunk : Type 0 where
  pub size : List ℕ
  pub extension : List ℕ
  pub content : List ℕ

-- chunk-size = 1*HEXDIG, the number of the bytes of chunk-data
pub record IsChunk (c : Chunk) : Type 0 where
  pub digits : IsNumeral 16 c.size
  pub number : digits_value 16 c.size ≡ length c.content
  pub extension : is_extension c.extension ≡ true

-- chunk-size [ chunk-ext ] CRLF, which is all of the last chunk
abbrev pub chunk_line : Chunk → List ℕ
chunk_line c = c.size ++ (c.extension ++ line_end)

-- chunk = chunk-size [ chunk-ext ] CRLF chunk-data CRLF
abbrev pub chunk_text : Chunk → List ℕ
chunk_text c = chunk_line c ++ (c.content ++ line_end)

-- of a chunk that isn't the last, some data
abbrev pub AreChunks : List Chunk → Type 0
AreChunks [] = Unit {0}
AreChunks (c ∷ chunks) = IsChunk c × (0 < length c.content) × AreChunks chunks

-- a field line: something without an end of a line in it
abbrev pub is_line : List ℕ → Bool
is_line [] = false
is_line (b ∷ bytes) = list_all is_in_line (b ∷ bytes)

-- trailer-section = *( field-line CRLF )
abbrev pub trailer_section : List (List ℕ) → List ℕ
trailer_section lines = flat_map (λ line. line ++ line_end) lines

-- chunked-body = *chunk last-chunk trailer-section CRLF; its content is the data of its chunks, one after the other
pub record IsChunkedBody (text content trailers : List ℕ) : Type 0 where
  pub chunks : List Chunk
  pub last : Chunk
  pub lines : List (List ℕ)
  pub are_chunks : AreChunks chunks
  pub is_last : IsChunk last
  pub no_data : last.content ≡ []
  pub are_lines : list_all is_line lines ≡ true
  pub body : text ≡ flat_map chunk_text chunks ++ (chunk_line last ++ (trailers ++ line_end))
  pub data_of : content ≡ flat_map (λ c. c.content) chunks
  pub section : trailers ≡ trailer_section lines
