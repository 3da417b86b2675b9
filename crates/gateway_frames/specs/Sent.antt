-- What a client is sent of a body, and when that is a whole one (RFC 9112, 6.3).
use Rattle.std.specs.Prelude.{ℕ, ◌+◌, ◌<◌, ◌≡◌, ◌^◌, List, [], ◌∷◌, ◌++◌, length, get_or, slice_range, Option, unwrap_or}
use Rattle.std.specs.List.{flat_map}
use Rattle.gateway_frames.specs.declared.chunks.Framing.{Framing}
use Rattle.gateway_frames.specs.declared.parts.Part.{Part}
use Rattle.gateway_frames.specs.declared.parts.PartPiece.{PartPiece}
use Rattle.gateway_frames.specs.declared.pieces.Relayed.{Relayed}
use Rattle.gateway_frames.specs.Chunked.{IsChunkedBody}
use Rattle.gateway_frames.specs.Frames.{framed}
use Rattle.gateway_frames.specs.Pieces.{relayed_bytes}

-- pieces of a body, each framed, one after the other
abbrev pub sent : Framing → List (List ℕ) → List ℕ
sent framing pieces = flat_map (framed framing) pieces

-- a text is a whole body of this content, to who reads it by its head: behind a stated length, in chunks, or up to the connection's end
abbrev pub IsWhole : Framing → ℕ → List ℕ → List ℕ → List ℕ → Type 0
IsWhole Framing.Length stated text content trailers = (text ≡ content) × (length content ≡ stated) × (trailers ≡ [])
IsWhole Framing.Chunked stated text content trailers = IsChunkedBody text content trailers
IsWhole Framing.Close stated text content trailers = (text ≡ content) × (trailers ≡ [])

-- 64 bits count the bytes of each
abbrev pub AreCounted : List (List ℕ) → Type 0
AreCounted [] = Unit {0}
AreCounted (piece ∷ pieces) = (length piece < 2 ^ 64) × AreCounted pieces

-- where a part ends in a body
abbrev pub part_end : Option ℕ → List ℕ → ℕ
part_end to body = unwrap_or to (length body)

-- what a client gets who is sent a part, of the pieces of a body that come one after the other
abbrev pub relayed_slice : Relayed → List ℕ → List ℕ
relayed_slice r piece = slice_range piece r.from r.to

abbrev pub relayed_pieces : ℕ → Option ℕ → ℕ → List (List ℕ) → List (List ℕ)
relayed_pieces from to before [] = []
relayed_pieces from to before (piece ∷ pieces) =
    relayed_slice (relayed_bytes from to before (length piece)) piece ∷ relayed_pieces from to (before + length piece) pieces

-- the bytes of a piece of an answer by parts
abbrev pub bytes_of : List (List ℕ) → List ℕ → List ℕ → PartPiece → List ℕ
bytes_of texts body after (PartPiece.Before number) = get_or texts number []
bytes_of texts body after (PartPiece.Body from to) = slice_range body from to
bytes_of texts body after PartPiece.After = after
bytes_of texts body after PartPiece.End = []

-- an answer by parts: of each its text, and the bytes of the body, and behind the last one what follows (RFC 9110, 14.6)
abbrev pub by_parts : List (List ℕ) → List ℕ → List ℕ → List Part → List ℕ
by_parts (text ∷ texts) body after (part ∷ parts) =
    text ++ (slice_range body part.from (part_end part.to body) ++ by_parts texts body after parts)
by_parts texts body after parts = after
