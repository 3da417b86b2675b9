-- What is read of a body in the bytes that came (RFC 9112, 6.3 and 7.1).
use Rattle.std.specs.Prelude.{ℕ, ◌+◌, ◌-◌, ◌≤◌, not, ◌==◌, min, if◌then◌else◌, List, [], length, drop, Option, Some, None, option_map}
use Rattle.rules_ffi_arguments.specs.declared.shapes.BodyShape.{BodyShape}
use Rattle.rules_ffi_arguments.specs.declared.shapes.PieceShape.{PieceShape}
use Rattle.rules_ffi_results.specs.declared.chunk.Place.{Place}
use Rattle.rules_ffi_results.specs.declared.chunk.Place.TheVariants.{Data, DataCr, Trailers, Over, Broken}
use Rattle.rules_ffi_results.specs.declared.chunk.Chunk.{Chunk}
use Rattle.rules_ffi_results.specs.declared.body.Decoded.{Decoded}
use Rattle.rules_ffi_results.specs.Numbers.{nowhere}
use Rattle.rules_ffi_results.specs.Chunks.{number, place_of, lines}
use Rattle.rules_ffi_results.specs.Trailers.{Ending, behind_chunks}

abbrev pub piece : ℕ → ℕ → ℕ → ℕ → PieceShape
piece status from to used = record { status = status; needed = 0; reason = 0; from = from; to = to; used = used; trailers = nowhere }

-- nothing, and what room would do
abbrev pub short : ℕ → ℕ → PieceShape
short status needed = record (piece status 0 0 0) { needed = needed }

abbrev pub broken : ℕ → PieceShape
broken reason = record (piece 66 0 0 0) { reason = reason }

abbrev pub over : PieceShape
over = piece 72 0 0 0

-- the bytes up to a place are done with, and there are more to come
abbrev pub more : ℕ → PieceShape
more used = piece 64 0 0 used

-- so many bytes of the body from a place on; more where there are none
abbrev pub handed : ℕ → ℕ → PieceShape
handed from n = if n == 0 then more from else piece 71 from (from + n) (from + n)

-- what is told, and the body behind it
abbrev pub Step : Type 0
Step = PieceShape × BodyShape

-- a call that reads nothing leaves the body as it is
abbrev pub refused_call : BodyShape → ℕ → ℕ → Step
refused_call body status needed = (short status needed, body)

-- the text of trailers beside them
abbrev pub decoded_of : Decoded → List ℕ × Step
decoded_of d = (d.text.items, (d.piece, d.body))

-- a length that is stated (6.3): what is left of it, as much as came
abbrev pub of_length : BodyShape → ℕ → Step
of_length body len =
    if body.length == 0 then (over, body)
    else (let n = min body.length len in (handed 0 n, record body { length = body.length - n }))

abbrev pub chunk_of : BodyShape → Place → Chunk
chunk_of body place = record { place = place; size = body.size; extensions = body.extensions }

abbrev pub with_chunk : BodyShape → Chunk → BodyShape
with_chunk body c = record body { state = number c.place; size = c.size; extensions = c.extensions }

abbrev pub behind_data : ℕ → Place
behind_data left = if left == 0 then DataCr else Data

-- chunk-data (7.1): what is left of it, as much as came
abbrev pub in_data : BodyShape → Chunk → ℕ → ℕ → Step
in_data body c at len =
    let n = min c.size (len - at) in
    (handed at n, with_chunk body (record c { place = behind_data (c.size - n); size = c.size - n }))

abbrev pub ended : BodyShape → List ℕ → ℕ → List ℕ × Step
ended body block used =
    (block, (record (piece 72 0 0 used) { trailers = record { from = 0; to = length block } }, record body { state = number Over }))

abbrev pub by_ending : Ending → BodyShape → ℕ → ℕ → List ℕ × Step
by_ending None body len at = ([], (more at, record body { scanned = len }))
by_ending (Some None) body len at = ([], (broken 41, record body { state = number Broken }))
by_ending (Some (Some section)) body len at = ended body section.0 (at + section.1)

-- the trailer section (7.1.2), from a place on
abbrev pub in_trailers : BodyShape → List ℕ → ℕ → List ℕ × Step
in_trailers body rest at = by_ending (behind_chunks rest body.scanned body.most) body (length rest) at

-- what stands behind the lines of chunks, at a place
abbrev pub of_chunks : Place → BodyShape → List ℕ → Chunk → ℕ → List ℕ × Step
of_chunks Data body bytes c at = ([], in_data body c at (length bytes))
of_chunks Trailers body bytes c at = in_trailers (with_chunk body c) (drop at bytes) at
of_chunks Over body bytes c at = ([], (over, with_chunk body c))
of_chunks Broken body bytes c at = ([], (broken 40, with_chunk body c))
of_chunks _ body bytes c at = ([], (more (length bytes), with_chunk body c))

abbrev pub chunked_from : BodyShape → List ℕ → Chunk × ℕ → List ℕ × Step
chunked_from body bytes r = of_chunks r.0.place body bytes r.0 r.1

-- chunks (7.1): the lines in front of data or trailers, and what comes behind them
abbrev pub chunked : BodyShape → List ℕ → Option (List ℕ × Step)
chunked body bytes = option_map (λ place. chunked_from body bytes (lines body.most (chunk_of body place) bytes)) (place_of body.state)

-- what the bytes give of a body by its framing (6.3): none, a length, chunks, or all up to the end of the connection
unfoldable pub decoded : BodyShape → List ℕ → Option (List ℕ × Step)
decoded body bytes =
    if not (body.reserved == 0) then None
    else (if body.framing == 0 then Some ([], (over, body))
    else (if body.framing == 1 then Some ([], of_length body (length bytes))
    else (if body.framing == 2 then chunked body bytes
    else (if body.framing == 3 then Some ([], (handed 0 (length bytes), body))
    else None))))

-- a piece stands in the bytes that were given, and they are done with up to its end at least
pub record LiesIn (p : PieceShape) (len : ℕ) : Type 0 where
  pub forth : p.from ≤ p.to
  pub used : p.to ≤ p.used
  pub within : p.used ≤ len

-- the bytes of the body that a piece hands on
abbrev pub handed_on : PieceShape → ℕ
handed_on p = p.to - p.from
