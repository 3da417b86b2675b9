-- What of a body a client is sent.
use Rattle.std.specs.Prelude.{◌≡◌, ℕ, ◌==◌, ◌^◌, ◌-◌, Bool, false, nat_lt, min, if◌then◌else◌, List, [], ◌∷◌, ◌++◌, length, slice_range, Option, Some, None, unwrap_or}
use Rattle.std.specs.List.{flat_map}
use Rattle.rules_ffi_arguments.specs.Options.{has_mark}
use Rattle.rules_ffi_arguments.specs.declared.shapes.PartShape.{PartShape}
use Rattle.gateway_frames.specs.declared.chunks.Framing.{Framing}
use Rattle.gateway_frames.specs.declared.pieces.Relayed.{Relayed}
use Rattle.gateway_frames.specs.Frames.{framed, end_text, sent_trailers}
use Rattle.gateway_frames.specs.Pieces.{relayed_bytes}
use Rattle.gateway_frames.specs.Sent.{relayed_slice}
use Rattle.gateway_rules.specs.Values.{text_of}
use Rattle.gateway_steps.specs.declared.state.AtTier.{AtTier}
use Rattle.gateway_steps.specs.declared.state.State.{State}
use Rattle.gateway_exchanges.specs.declared.exchange.Exchange.{Exchange}
use Rattle.gateway_exchanges.specs.declared.outs.Out.{Out}
use Rattle.gateway_exchanges.specs.declared.outs.Piece.{Piece}
use Rattle.gateway_exchanges.specs.Replies.{Reply, reply_of}
use Rattle.gateway_exchanges.specs.Frames.{HasSameButPieces}
use Rattle.gateway_state.specs.declared.state.Gateway.{Gateway}

-- by the rules' numbers
abbrev pub framing_of : ℕ → Framing
framing_of n = if n == 2 then Framing.Chunked else if n == 3 then Framing.Close else Framing.Length

-- where a part ends: none, where it ends with the body
abbrev pub end_of : PartShape → Option ℕ
end_of part = if part.to == 2 ^ 64 - 1 then None else Some part.to

-- ==== what is sent

abbrev pub piece_bytes : Piece → List ℕ
piece_bytes (Piece.Text text) = text.items
piece_bytes (Piece.Shared bytes) = bytes

-- the bytes of all pieces
abbrev pub sent_in : Reply → List ℕ
sent_in r = flat_map piece_bytes r.pieces

-- these bytes go behind what was sent, and nothing else is answered
pub record Sends (bytes : List ℕ) (old new : Out) : Type 0 where
  pub sent : sent_in (reply_of new) ≡ sent_in (reply_of old) ++ bytes
  pub rest : HasSameButPieces old new

-- ==== of a whole body

abbrev pub last_in : List ℕ → PartShape → ℕ
last_in body part = min (unwrap_or (end_of part) (length body)) (length body)

abbrev pub part_in : List ℕ → PartShape → List ℕ
part_in body part = slice_range body (min part.from (last_in body part)) (last_in body part)

-- the text in front of a part
abbrev pub part_front : Exchange → PartShape → List ℕ
part_front e part = text_of e.answer.texts.items part.before

-- a part, behind that
abbrev pub part_text : Exchange → PartShape → List ℕ
part_text e part =
    framed (framing_of e.answer.framing) (part_front e part)
    ++ framed (framing_of e.answer.framing) (part_in e.answer.whole part)

-- trailers go to who takes them
abbrev pub trailers_of : Exchange → List ℕ
trailers_of e = sent_trailers (framing_of e.answer.framing) (has_mark e.request.shape.marks 2) e.answer.trailers.items

-- what follows the last part, and what ends the body
abbrev pub body_end : Exchange → List ℕ
body_end e = framed (framing_of e.answer.framing) (text_of e.answer.texts.items e.answer.after) ++ end_text (framing_of e.answer.framing) (trailers_of e)

abbrev pub whole_text : Exchange → List ℕ
whole_text e = flat_map (part_text e) e.answer.parts.items ++ body_end e

-- ==== of a body as it comes

-- of its next bytes, those of a part
abbrev pub relayed_now : List ℕ → Exchange → PartShape → Relayed
relayed_now piece e part = relayed_bytes part.from (end_of part) e.steps.state.origin.size (length piece)

abbrev pub has_bytes : Relayed → Bool
has_bytes r = nat_lt r.from r.to

-- of the first part alone: there is no more than one
abbrev pub of_first : {A : Type 0} → A → (PartShape → A) → List PartShape → A
of_first none some [] = none
of_first none some (part ∷ parts) = some part

abbrev pub relayed_text : List ℕ → Exchange → List ℕ
relayed_text piece e = of_first [] (λ part. framed (framing_of e.answer.framing) (relayed_slice (relayed_now piece e part) piece)) e.answer.parts.items

-- the client gets some of them: it is woken
abbrev pub is_relayed : List ℕ → Exchange → Bool
is_relayed piece e = of_first false (λ part. has_bytes (relayed_now piece e part)) e.answer.parts.items

abbrev pub is_all_relayed : List ℕ → Exchange → Bool
is_all_relayed piece e = of_first false (λ part. (relayed_now piece e part).is_last) e.answer.parts.items

-- all but whether the body that the client is sent goes on
abbrev pub HasSameButEnding : State → State → Type 0
HasSameButEnding old new = new ≡ record old { client = record old.client { ending = new.client.ending } }

-- what ends with a request at the tier is as it is now; whose write it reads stays
abbrev pub tier_by : AtTier → AtTier → AtTier
tier_by now tier = record tier {
  held = now.held;
  permit = now.permit;
  writes = now.writes;
  joinable = now.joinable;
  holder = now.holder;
  moved = now.moved;
  passing = now.passing;
}

-- all but what it holds at the tier
abbrev pub HasSameButPassed : State → State → Type 0
HasSameButPassed old new = new ≡ record old { tier = tier_by new.tier old.tier }

-- the same, and whether the body that the client is sent goes on
abbrev pub HasSameButReading : State → State → Type 0
HasSameButReading old new = new ≡ record old { client = record old.client { ending = new.client.ending }; tier = tier_by new.tier old.tier }

-- all but the pieces for the client, what went for room, and who is woken by what it passed
abbrev pub HasSameButSent : Out → Out → Type 0
HasSameButSent old new =
    reply_of new ≡ record (reply_of old) { pieces = (reply_of new).pieces; evicted = (reply_of new).evicted; wakes = (reply_of new).wakes }

-- all but what went for room, and who is woken
abbrev pub HasSameButRoom : Out → Out → Type 0
HasSameButRoom old new = reply_of new ≡ record (reply_of old) { evicted = (reply_of new).evicted; wakes = (reply_of new).wakes }

-- all but what is at the tier, and in tails, and for whom
abbrev pub HasSameButRead : Gateway → Gateway → Type 0
HasSameButRead old new = new ≡ record old { tier = new.tier; table = new.table; flying = new.flying; tails = new.tails }
