-- What is known of a body's next bytes, and of those who read it.
use Rattle.std.specs.Prelude.{◌≡◌, ◌⊎◌, ◌==◌, ℕ, List, length, Bool, true, false, not, ◌&&◌, ◌||◌, ◌/◌, ◌-◌, if◌then◌else◌, MatchBool, nat_lt, nat_le, unwrap_or, Option, Some, None}
use Rattle.std.specs.Option.{option_map_or}
use Rattle.std.specs.List.{list_any}
use Rattle.gateway_types.specs.declared.bodies.BodyVerdict.{BodyVerdict}
use Rattle.gateway_types.specs.declared.bodies.ClosedVerdict.{ClosedVerdict}
use Rattle.gateway_types.specs.declared.bodies.EndVerdict.{EndVerdict}
use Rattle.gateway_rules.specs.Bodies.{Decoding}
use Rattle.gateway_rows.specs.Bodies.{body_row, is_awaiting, is_idle}
use Rattle.gateway_steps.specs.Phases.{awaits_answer, is_sending, is_relay, goes_on}
use Rattle.gateway_steps.specs.Steps.{begins_tail, closes_origin, completes, ends_tail, finishes, stops, takes_piece}
use Rattle.gateway_steps.specs.Questions.{grows_past, is_unread_past, piece_of}
use Rattle.gateway_steps.specs.Sides.{capped_sum}
use Rattle.gateway_steps.specs.declared.state.Piece.{Piece}
use Rattle.gateway_steps.specs.declared.state.State.{State}
use Rattle.gateway_exchanges.specs.declared.exchange.Exchange.{Exchange}
use Rattle.gateway_state.specs.declared.state.Gateway.{Gateway}
use Rattle.gateway_exchanges.specs.Exchanges.{lacks_bytes_of}
use Rattle.gateway_steps.specs.declared.state.Ending.{Ending}
use Rattle.gateway_exchanges.specs.Tails.{TailMap, ended, taken, with_change}
use Rattle.gateway_sides.specs.Tails.{BeginsTail}
use Rattle.gateway_exchanges.specs.Tables.{Exchanges, exchange_at, numbers_at}
use Rattle.gateway_responses.specs.declared.growth.Grown.{Grown}

-- ==== who reads it

-- the exchange of number y lacks bytes of what that of number x stores
abbrev pub is_reader : ℕ → Exchanges → ℕ → Bool
is_reader x t y = option_map_or (lacks_bytes_of x) (exchange_at y t) false

abbrev pub has_reader_at : ℕ → Exchanges → Option (List ℕ) → Bool
has_reader_at x t None = false
has_reader_at x t (Some key) = list_any (is_reader x t) (numbers_at key t)

-- its own client does, or another's
abbrev pub has_reader : Exchanges → Exchange → Bool
has_reader t e = lacks_bytes_of e.x e || has_reader_at e.x t e.key

-- ==== how it grows

-- its next bytes; half of what the tier may hold is for what is in flight
abbrev pub growth_of : Gateway → Exchange → ℕ → Grown
growth_of g e bytes = record {
  piece = record { bytes = bytes; read = has_reader g.table e };
  reads = lacks_bytes_of e.x e;
  unread_past = not (has_reader g.table e) && is_unread_past bytes g.limits.max_unread e.steps.state;
  past = grows_past bytes g.limits.max_body_bytes (g.flying - e.asks.flying) (g.limits.max_bytes / 2) e.steps.state;
}

-- where they go, while the tier takes them
abbrev pub body_verdict : Grown → State → BodyVerdict
body_verdict grown s = body_row (piece_of grown.past grown.reads grown.unread_past false s)

-- with so many bytes more it is longer than may be stored, and wasn't before
abbrev pub grows_long : ℕ → ℕ → State → Bool
grows_long bytes most s = nat_le s.origin.size most && nat_lt most (capped_sum s.origin.size bytes)

-- by the row of its next bytes: they are stored, kept in a tail, or relayed, where all that its client gets may have come with them
abbrev pub IsTaken : BodyVerdict → Piece → State → State → Type 0
IsTaken BodyVerdict.Store piece s s' = s' ≡ takes_piece piece s
IsTaken BodyVerdict.BeginTail piece s s' = s' ≡ takes_piece piece (begins_tail s)
IsTaken BodyVerdict.Tail piece s s' = s' ≡ takes_piece piece s
IsTaken BodyVerdict.Relay piece s s' = (s' ≡ takes_piece piece s) ⊎ (s' ≡ completes (takes_piece piece s))
IsTaken BodyVerdict.Truncate piece s s' = ⊥

-- what comes past what is stored is kept, behind that, as far as its own client lacks it, and a bound of what that has taken
abbrev pub tails_with : List ℕ → Gateway → Exchange → TailMap → TailMap
tails_with piece g e tails = with_change e.x (taken piece (unwrap_or e.answer.place 0) g.limits.max_tail) tails

abbrev pub IsKept : BodyVerdict → List ℕ → Gateway → Exchange → Gateway → Type 0
IsKept BodyVerdict.Tail piece g e g' = g'.tails ≡ tails_with piece g e g.tails
IsKept BodyVerdict.BeginTail piece g e g' = (begun : Gateway) × BeginsTail e g begun × (g'.tails ≡ tails_with piece begun e begun.tails)
IsKept _ piece g e g' = g'.tails ≡ g.tails

-- ==== how it ends

-- its client lacks bytes of what broke off; `reads`: of what is stored for it
abbrev pub lacks : Bool → State → Bool
lacks reads s = is_sending s.client.phase && (is_relay s.client.source || reads) && goes_on s.client.ending

-- it came further, or ended: of its client's side nothing changed but whether its body goes on, and no head is awaited
abbrev pub GoesOn : State → State → Type 0
GoesOn s s' = (s'.client ≡ record s.client { ending = s'.client.ending }) × (is_awaiting s'.origin.phase ≡ false)

-- the same, and nothing more is awaited
abbrev pub ComesToRest : State → State → Type 0
ComesToRest s s' = (s'.client ≡ record s.client { ending = s'.client.ending }) × (is_idle s'.origin.phase ≡ true)

-- it broke off: nobody is told that it ended. Where all had come that its client gets, no more is done
abbrev pub breaks_off : Bool → State → State
breaks_off lacks s = if is_idle s.origin.phase then s else stops lacks s

-- who reads on in its tail finds that
abbrev pub tails_ended : Ending → Exchange → TailMap → TailMap
tails_ended ending e tails = if e.steps.state.origin.tailed then with_change e.x (ended ending) tails else tails

-- by the row of its end
abbrev pub IsEnded : EndVerdict → State → State → Type 0
IsEnded EndVerdict.Complete s s' = s' ≡ completes s
IsEnded EndVerdict.EndTail s s' = s' ≡ ends_tail s
IsEnded EndVerdict.Finish s s' = (stored : Bool) × (s' ≡ finishes stored s)
IsEnded EndVerdict.Truncate s s' = ComesToRest s s'

-- what was decoded of it: its content goes where its row says, or it broke off; behind its last bytes nothing more is awaited, nor behind what doesn't read
abbrev pub IsReceived : Decoding → Grown → State → State → Type 0
IsReceived d grown s s' =
    MatchBool (d.over || not (d.bad == 0)) (ComesToRest s s')
    (MatchBool (length d.content == 0) (s' ≡ s) (IsTaken (body_verdict grown s) grown.piece s s' ⊎ ComesToRest s s'))

-- by the verdict of the end of a connection: who has no answer yet is given one where none comes
abbrev pub IsClosedBy : ClosedVerdict → ℕ → Bool → State → State → Type 0
IsClosedBy ClosedVerdict.SendAgain now lacks s s' = s' ≡ closes_origin ClosedVerdict.SendAgain now lacks s
IsClosedBy ClosedVerdict.End now lacks s s' = ComesToRest s s'
IsClosedBy ClosedVerdict.Truncate now lacks s s' = s' ≡ stops lacks s
IsClosedBy _ now lacks s s' = (is_idle s'.origin.phase ≡ true) × (awaits_answer s'.client.phase ≡ false)
