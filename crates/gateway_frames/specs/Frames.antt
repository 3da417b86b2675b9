-- What is sent of a body, as its head frames it (RFC 9112, 6.3, 7.1). Bytes are numbers: 13 and 10 end a line, 48 is the digit 0.
use Rattle.std.specs.Prelude.{ℕ, ◌-◌, Bool, true, false, ◌&&◌, nat_lt, min, if◌then◌else◌, List, [], ◌∷◌, ◌++◌, length, drop}
use Rattle.std.specs.Fmt.{digits}
use Rattle.gateway_frames.specs.declared.chunks.Framing.{Framing}
use Rattle.gateway_frames.specs.declared.chunks.ChunkHead.{ChunkHead}

abbrev pub is_chunked : Framing → Bool
is_chunked Framing.Chunked = true
is_chunked _ = false

abbrev pub line_end : List ℕ
line_end = 13 ∷ 10 ∷ []

-- chunk-size CRLF (7.1): so many bytes, in hexadecimal digits without zeros in front
unfoldable pub size_line : ℕ → List ℕ
size_line n = digits 16 false n ++ line_end

abbrev pub head_text : ChunkHead → List ℕ
head_text head = drop head.from head.text

-- a chunk of no data would be the last one: none is sent
abbrev pub has_chunk : Framing → ℕ → Bool
has_chunk framing n = is_chunked framing && nat_lt 0 n

-- what is sent in front of so many bytes, and behind them
abbrev pub front : Framing → ℕ → List ℕ
front framing n = if has_chunk framing n then size_line n else []

abbrev pub behind : Framing → ℕ → List ℕ
behind framing n = if has_chunk framing n then line_end else []

-- chunk = chunk-size CRLF chunk-data CRLF, and else the bytes as they are
abbrev pub framed : Framing → List ℕ → List ℕ
framed framing bytes = front framing (length bytes) ++ (bytes ++ behind framing (length bytes))

-- of so many bytes that were taken of a piece as it was sent, those of the body
abbrev pub content_taken : Framing → ℕ → ℕ → ℕ
content_taken framing n sent = min (sent - length (front framing n)) n

-- what ends a body: last-chunk, the trailer-section, CRLF
abbrev pub end_front : Framing → List ℕ
end_front framing = if is_chunked framing then 48 ∷ line_end else []

abbrev pub end_behind : Framing → List ℕ
end_behind framing = if is_chunked framing then line_end else []

-- trailers go to who says that it takes them (RFC 9110, 6.5.1)
abbrev pub sent_trailers : Framing → Bool → List ℕ → List ℕ
sent_trailers framing accepts trailers = if is_chunked framing && accepts then trailers else []

abbrev pub end_text : Framing → List ℕ → List ℕ
end_text framing trailers = end_front framing ++ (trailers ++ end_behind framing)
