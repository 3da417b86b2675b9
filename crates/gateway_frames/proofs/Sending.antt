-- What is sent reads back.
use Rattle.std.proofs.Common.{◌≡◌, refl, sym, ap, ◌∙◌, ℕ, ◌^◌, ◌<◌, Bool, true, false, cond, nat_lt, List, [], ◌∷◌, ◌++◌, length, arith, append_assoc, length-append}
use Rattle.std.proofs.lemmas.Bool.{lt-ltb}
use Rattle.std.proofs.lemmas.List.{append-nil}
use Rattle.std.proofs.lemmas.Fmt.{digits_is_IsNumeral}
use Rattle.std.specs.Fmt.{digits}
use Rattle.std.specs.List.{list_all, flat_map, concat}
use Rattle.gateway_frames.specs.declared.chunks.Framing.{Framing}
use Rattle.gateway_frames.specs.Frames.{line_end, size_line, framed, end_text, sent_trailers}
use Rattle.gateway_frames.specs.Chunked.{Chunk, IsChunk, chunk_text, AreChunks, is_line, trailer_section, IsChunkedBody}
use Rattle.gateway_frames.specs.Sent.{sent, IsWhole, AreCounted}
use Rattle.gateway_frames.proofs.Reading.{one_reading}

-- ==== chunks

chunk_of : List ℕ → Chunk
chunk_of bytes = record { size = digits 16 false (length bytes); extension = []; content = bytes }

chunks_of : List (List ℕ) → List Chunk
chunks_of [] = []
chunks_of ([] ∷ pieces) = chunks_of pieces
chunks_of ((b ∷ bytes) ∷ pieces) = chunk_of (b ∷ bytes) ∷ chunks_of pieces

is_chunk : (bytes : List ℕ) → length bytes < 2 ^ 64 → IsChunk (chunk_of bytes)
unfolding chunk_of
is_chunk bytes h =
    let read = digits_is_IsNumeral 16 false (omega arith) (omega arith) (length bytes) (omega (arith, h)) in
    record { digits = read.0; number = read.1; extension = refl }

are_chunks : (pieces : List (List ℕ)) → AreCounted pieces → AreChunks (chunks_of pieces)
unfolding chunks_of chunk_of
are_chunks [] h = tt
are_chunks ([] ∷ pieces) h = are_chunks pieces h.1
are_chunks ((b ∷ bytes) ∷ pieces) h = (is_chunk (b ∷ bytes) h.0, omega arith, are_chunks pieces h.1)

framed_is : (b : ℕ) (bytes : List ℕ) → framed Framing.Chunked (b ∷ bytes) ≡ chunk_text (chunk_of (b ∷ bytes))
unfolding chunk_of size_line
framed_is b bytes = go (nat_lt 0 (length (b ∷ bytes))) (lt-ltb 0 (length (b ∷ bytes)) (omega arith))
  where
    go : (t : Bool) → t ≡ true
        → cond t (size_line (length (b ∷ bytes))) [] ++ ((b ∷ bytes) ++ cond t line_end []) ≡ chunk_text (chunk_of (b ∷ bytes))
    go true e = refl
    go false e = cc

sent_is : (pieces : List (List ℕ)) → sent Framing.Chunked pieces ≡ flat_map chunk_text (chunks_of pieces)
unfolding chunks_of
sent_is [] = refl
sent_is ([] ∷ pieces) = sent_is pieces
sent_is ((b ∷ bytes) ∷ pieces) =
    ap (λ t. t ++ sent Framing.Chunked pieces) (framed_is b bytes) ∙ ap (λ t. chunk_text (chunk_of (b ∷ bytes)) ++ t) (sent_is pieces)

data_is : (pieces : List (List ℕ)) → concat pieces ≡ flat_map (λ (c : Chunk). c.content) (chunks_of pieces)
unfolding chunks_of chunk_of
data_is [] = refl
data_is ([] ∷ pieces) = data_is pieces
data_is ((b ∷ bytes) ∷ pieces) = ap (λ t. (b ∷ bytes) ++ t) (data_is pieces)

last_chunk : Chunk
last_chunk = record { size = 48 ∷ []; extension = []; content = [] }

is_last : IsChunk last_chunk
unfolding last_chunk
is_last = record { digits = (omega arith, (omega arith, tt)); number = refl; extension = refl }

pub chunked_reads : (pieces lines : List (List ℕ)) → AreCounted pieces → list_all is_line lines ≡ true
    → IsChunkedBody (sent Framing.Chunked pieces ++ end_text Framing.Chunked (trailer_section lines)) (concat pieces) (trailer_section lines)
unfolding last_chunk
chunked_reads pieces lines h k = record {
  chunks = chunks_of pieces;
  last = last_chunk;
  lines = lines;
  are_chunks = are_chunks pieces h;
  is_last = is_last;
  no_data = refl;
  are_lines = k;
  body = ap (λ t. t ++ end_text Framing.Chunked (trailer_section lines)) (sent_is pieces);
  data_of = data_is pieces;
  section = refl;
}

-- what is short of the end is no whole body
pub no_end : (pieces : List (List ℕ)) (front rest content trailers : List ℕ) → AreCounted pieces → front ++ rest ≡ sent Framing.Chunked pieces
    → IsChunkedBody front content trailers → ⊥
no_end pieces front rest content trailers h e b =
    let end = end_text Framing.Chunked [] in
    let whole = chunked_reads pieces [] h refl in
    let same : (sent Framing.Chunked pieces ++ end) ++ [] ≡ front ++ (rest ++ end) =
    append-nil (sent Framing.Chunked pieces ++ end) ∙ ap (λ t. t ++ end) (sym e) ∙ append_assoc front rest end in
    let read = one_reading (sent Framing.Chunked pieces ++ end) (concat pieces) [] [] front content trailers (rest ++ end) whole b same in
    let count = ap length read.2 in
    omega (arith, count, length-append rest end)

-- ==== bytes as they are

sent_plain : (framing : Framing) → ((p : List ℕ) → framed framing p ≡ p ++ []) → (pieces : List (List ℕ)) → sent framing pieces ≡ concat pieces
sent_plain framing plain [] = refl
sent_plain framing plain (p ∷ pieces) =
    ap (λ t. t ++ sent framing pieces) (plain p ∙ append-nil p) ∙ ap (λ t. p ++ t) (sent_plain framing plain pieces)

pub whole_reads : (framing : Framing) (accepts : Bool) (pieces lines : List (List ℕ)) → AreCounted pieces → list_all is_line lines ≡ true
    → (let trailers = sent_trailers framing accepts (trailer_section lines)
    in IsWhole framing (length (concat pieces)) (sent framing pieces ++ end_text framing trailers) (concat pieces) trailers)
whole_reads Framing.Length accepts pieces lines h k =
    (append-nil (sent Framing.Length pieces) ∙ sent_plain Framing.Length (λ p. refl) pieces, refl, refl)
whole_reads Framing.Chunked true pieces lines h k = chunked_reads pieces lines h k
whole_reads Framing.Chunked false pieces lines h k = chunked_reads pieces [] h refl
whole_reads Framing.Close accepts pieces lines h k =
    (append-nil (sent Framing.Close pieces) ∙ sent_plain Framing.Close (λ p. refl) pieces, refl)

pub no_length : (pieces : List (List ℕ)) (front rest content trailers : List ℕ) (stated : ℕ) → length (concat pieces) < stated
    → front ++ rest ≡ sent Framing.Length pieces → IsWhole Framing.Length stated front content trailers → ⊥
no_length pieces front rest content trailers stated h e w =
    let plain = sent_plain Framing.Length (λ p. refl) pieces in
    let count = ap length (e ∙ plain) in
    omega (arith, h, w.1, ap length w.0, count, length-append front rest)
