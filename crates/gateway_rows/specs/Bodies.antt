-- Where a piece of a body goes, what its end does, and what becomes of the connections (RFC 9110, 9.2.2; RFC 9112, 8, 9.3).
use Rattle.std.specs.Prelude.{Bool, true, false, not, ◌&&◌, ◌||◌, [], ◌∷◌}
use Rattle.gateway_rows.specs.Tables.{first_of}
use Rattle.gateway_types.specs.declared.states.Origin.{Origin}
use Rattle.gateway_types.specs.declared.bodies.Piece.{Piece}
use Rattle.gateway_types.specs.declared.bodies.BodyVerdict.{BodyVerdict}
use Rattle.gateway_types.specs.declared.bodies.BodyEnd.{BodyEnd}
use Rattle.gateway_types.specs.declared.bodies.EndVerdict.{EndVerdict}
use Rattle.gateway_types.specs.declared.bodies.Why.{Why}
use Rattle.gateway_types.specs.declared.bodies.Closed.{Closed}
use Rattle.gateway_types.specs.declared.bodies.ClosedVerdict.{ClosedVerdict}
use Rattle.gateway_types.specs.declared.bodies.Leaving.{Leaving}
use Rattle.gateway_types.specs.declared.bodies.ClientVerdict.{ClientVerdict}
use Rattle.gateway_types.specs.declared.bodies.Connection.{Connection}

abbrev pub is_idle : Origin → Bool
is_idle Origin.Idle = true
is_idle _ = false

abbrev pub is_awaiting : Origin → Bool
is_awaiting Origin.AwaitingHead = true
is_awaiting _ = false

abbrev pub is_storing : Origin → Bool
is_storing Origin.Storing = true
is_storing _ = false

abbrev pub is_relaying : Origin → Bool
is_relaying Origin.Relaying = true
is_relaying _ = false

abbrev pub is_clean : Why → Bool
is_clean Why.Clean = true
is_clean _ = false

abbrev pub is_timeout : Why → Bool
is_timeout Why.Timeout = true
is_timeout _ = false

abbrev pub is_unused : Why → Bool
is_unused Why.Unused = true
is_unused _ = false

-- a tail is for its own client; what would be too long to store becomes one while that client reads
abbrev pub body_row : Piece → BodyVerdict
body_row piece = first_of
    ((piece.tailed && piece.reads, BodyVerdict.Tail)
    ∷ (piece.tailed, BodyVerdict.Truncate)
    ∷ (is_relaying piece.origin, BodyVerdict.Relay)
    ∷ (piece.refused || piece.unread_past, BodyVerdict.Truncate)
    ∷ (piece.grows_past && piece.reads, BodyVerdict.BeginTail)
    ∷ (piece.grows_past, BodyVerdict.Truncate)
    ∷ []) BodyVerdict.Store

abbrev pub end_row : BodyEnd → EndVerdict
end_row end = first_of
    ((end.tailed, EndVerdict.EndTail)
    ∷ (is_relaying end.origin, EndVerdict.Complete)
    ∷ (end.refused, EndVerdict.Truncate)
    ∷ []) EndVerdict.Finish

-- nothing can be done twice by sending it again, and nobody has begun to answer
abbrev pub may_send_again : Closed → Bool
may_send_again closed =
    is_unused closed.why && closed.idempotent && not closed.spoke && not closed.body_sent && not closed.sent_again

-- before a head: once more, or no answer; within a body: whole only where it ends with the connection, and that ended by itself
abbrev pub closed_row : Closed → ClosedVerdict
closed_row closed = first_of
    ((is_awaiting closed.origin && may_send_again closed, ClosedVerdict.SendAgain)
    ∷ (is_awaiting closed.origin && is_timeout closed.why, ClosedVerdict.Timeout)
    ∷ (is_awaiting closed.origin, ClosedVerdict.NoAnswer)
    ∷ (closed.close_delimited && is_clean closed.why, ClosedVerdict.End)
    ∷ []) ClosedVerdict.Truncate

-- what is stored goes on, and what isn't heard yet, where its request went whole
abbrev pub client_row : Leaving → ClientVerdict
client_row leaving = first_of
    ((is_idle leaving.origin, ClientVerdict.Nothing)
    ∷ (is_storing leaving.origin, ClientVerdict.GoesOn)
    ∷ (is_awaiting leaving.origin && not leaving.owes_body, ClientVerdict.GoesOn)
    ∷ (leaving.tailed, ClientVerdict.Truncate)
    ∷ []) ClientVerdict.CloseOrigin

abbrev pub is_reusable : Connection → Bool
is_reusable connection =
    connection.whole_response && not connection.response_closes && not connection.bytes_left && not connection.owes_body
