-- What is asked of an exchange's state.
use Rattle.std.specs.Prelude.{ℕ, Bool, false, not, unwrap_or, nat_le, nat_lt, ◌==◌, ◌&&◌, ◌||◌, ◌*◌, [], ◌∷◌, if◌then◌else◌, max, min, Option, Some, None}
use Rattle.std.specs.Option.{option_map_or}
use Rattle.gateway_types.specs.declared.waits.Ended.{Ended}
use Rattle.gateway_types.specs.declared.waits.Waiting.{Waiting}
use Rattle.gateway_types.specs.declared.responses.Keeping.{Keeping}
use Rattle.gateway_types.specs.declared.bodies.Piece.{Piece}
use Rattle.gateway_types.specs.declared.bodies.BodyEnd.{BodyEnd}
use Rattle.gateway_types.specs.declared.bodies.Why.{Why}
use Rattle.gateway_types.specs.declared.bodies.Closed.{Closed}
use Rattle.gateway_types.specs.declared.bodies.Leaving.{Leaving}
use Rattle.gateway_types.specs.declared.bodies.Connection.{Connection}
use Rattle.gateway_rows.specs.Bodies.{is_idle, is_awaiting}
use Rattle.gateway_rows.specs.Tables.{first_of}
use Rattle.gateway_steps.specs.declared.state.AnswerEnd.{AnswerEnd}
use Rattle.gateway_steps.specs.declared.state.State.{State}
use Rattle.gateway_steps.specs.declared.state.Timeouts.{Timeouts}
use Rattle.gateway_steps.specs.Phases.{is_waiting, is_stored_fetch, is_undecided, is_for_client, is_truncated, lacks_end, reads_write}
use Rattle.gateway_steps.specs.Sides.{capped_sum}

-- a look-up, or a response that is to be stored
abbrev pub may_hold : State → Bool
may_hold s = is_undecided s || (is_awaiting s.origin.phase && is_stored_fetch s.origin.fetch)

-- ==== moments

-- it has waited as long as an exchange may, in all
abbrev pub wait_end : Timeouts → State → ℕ
wait_end timeouts s = capped_sum (unwrap_or s.tier.since 0) timeouts.lock_timeout

-- the holder's permit is past its age
abbrev pub permit_end : Timeouts → ℕ → ℕ
permit_end timeouts permit = capped_sum permit timeouts.lock_age

-- past that the origin is late: none while nothing is asked, or nothing is read on
abbrev pub origin_deadline : Timeouts → State → Option ℕ
origin_deadline timeouts s =
    if is_idle s.origin.phase || s.origin.blocked then None
    else Some (capped_sum s.origin.word (if s.origin.spoke then timeouts.between_bytes else timeouts.first_byte))

abbrev pub is_late : ℕ → Timeouts → State → Bool
is_late now timeouts s = option_map_or (λ due. nat_le due now) (origin_deadline timeouts s) false

-- the next moment at which something is due: of who waits, by the permit of whom it waits for
abbrev pub deadline : Timeouts → Option ℕ → State → Option ℕ
deadline timeouts permit s =
    if is_waiting s.client.phase
    then Some (option_map_or (λ since. min (wait_end timeouts s) (permit_end timeouts since)) permit (wait_end timeouts s))
    else origin_deadline timeouts s

-- ==== what the tables are asked

abbrev pub wait_of : ℕ → Timeouts → Bool → Bool → Option Ended → State → Waiting
wait_of now timeouts shares refused ended s = record {
  shares = shares;
  over = nat_le (wait_end timeouts s) now;
  moved = s.tier.moved;
  refused = refused;
  ended = ended;
}

abbrev pub keeping_of : Bool → Bool → Bool → State → Keeping
keeping_of kept too_long too_much s = record {
  kept = kept;
  purged = s.origin.purged;
  superseded = s.origin.superseded;
  too_long = too_long;
  too_much = too_much;
}

-- what is stored takes fields of what the origin says of it: where it stands yet as it was found
abbrev pub may_freshen : Bool → State → Bool
may_freshen kept s = kept && s.tier.held && not (s.origin.purged || s.origin.overtaken || s.origin.superseded)

-- `reads`: its own client lacks bytes of it
abbrev pub piece_of : Bool → Bool → Bool → Bool → State → Piece
piece_of grows_past reads unread_past refused s = record {
  origin = s.origin.phase;
  tailed = s.origin.tailed;
  grows_past = grows_past;
  reads = reads;
  unread_past = unread_past;
  refused = refused;
}

abbrev pub end_of : Bool → State → BodyEnd
end_of refused s = record { origin = s.origin.phase; tailed = s.origin.tailed; refused = refused }

abbrev pub closed_of : Why → Bool → State → Closed
closed_of why idempotent s = record {
  origin = s.origin.phase;
  why = why;
  close_delimited = s.origin.close_delimited;
  idempotent = idempotent;
  spoke = s.origin.spoke;
  body_sent = s.origin.body_sent;
  sent_again = s.origin.sent_again;
}

abbrev pub leaving_of : State → Leaving
leaving_of s = record { origin = s.origin.phase; tailed = s.origin.tailed; owes_body = s.client.owes_body }

abbrev pub connection_of : Bool → Bool → State → Connection
connection_of whole bytes_left s = record {
  response_closes = not s.origin.reusable;
  whole_response = whole;
  bytes_left = bytes_left;
  owes_body = s.client.owes_body;
}

-- ==== the client

-- so many bytes it hasn't taken are enough
abbrev pub is_blocked : ℕ → ℕ → State → Bool
is_blocked untaken most s = is_for_client s && nat_le most untaken

-- once it was sent all that is there
abbrev pub answer_end : State → AnswerEnd
answer_end s = first_of
    ((lacks_end s.client, AnswerEnd.GoesOn)
    ∷ (is_truncated s.client.ending, AnswerEnd.Truncated)
    ∷ (s.client.closes, AnswerEnd.Close)
    ∷ []) AnswerEnd.End

-- ==== others

-- it waits for that exchange's permit
abbrev pub is_waiting_for : ℕ → State → Bool
is_waiting_for number s = is_waiting s.client.phase && option_map_or (λ holder. holder == number) s.tier.holder false

-- it reads what that exchange stores
abbrev pub is_reading_from : ℕ → State → Bool
is_reading_from number s = reads_write s.client && option_map_or (λ writer. writer == number) s.tier.writer false

-- ==== bounds

-- so many bytes its write takes, as far as is known: of a body that grew too long what was stored of it
abbrev pub write_size : State → ℕ
write_size s =
    if s.tier.writes
    then (if s.origin.tailed then s.origin.stored else max s.origin.size (unwrap_or s.origin.length 0))
    else 0

-- with so many bytes more its body is longer than may be stored, or with others' writes too much is in flight
abbrev pub grows_past : ℕ → ℕ → ℕ → ℕ → State → Bool
grows_past bytes most others most_in_flight s =
    let size = capped_sum s.origin.size bytes in
    nat_lt most size || nat_lt most_in_flight (capped_sum others (max size (unwrap_or s.origin.length 0)))

-- with so many bytes more half of its body is there, where its length is said
abbrev pub is_half_there : ℕ → State → Bool
is_half_there bytes s = option_map_or (λ length. nat_lt 0 length && nat_le length (2 * capped_sum s.origin.size bytes)) s.origin.length false

-- with so many bytes more too many came for nobody, and there isn't half of it
abbrev pub is_unread_past : ℕ → ℕ → State → Bool
is_unread_past bytes most s = nat_lt most (capped_sum s.origin.unread bytes) && not (is_half_there bytes s)
