-- What each verdict of a final head does (RFC 9111, 3, 4.3.3 to 4.4; RFC 5861, 4).
use Rattle.std.specs.Prelude.{◌≡◌, ℕ, Bool, true, false, ◌⊎◌, MatchBool}
use Rattle.gateway_types.specs.declared.responses.ResponseVerdict.{ResponseVerdict}
use Rattle.gateway_rows.specs.Bodies.{is_awaiting, is_idle}
use Rattle.gateway_steps.specs.Phases.{awaits_answer, is_relay, is_sending, reads_write}
use Rattle.gateway_steps.specs.Steps.{gives_up}
use Rattle.gateway_steps.specs.declared.state.State.{State}

-- its client has its answer, or had one, and no head is awaited any more
abbrev pub IsAnsweredBy : State → Type 0
IsAnsweredBy s' = (awaits_answer s'.client.phase ≡ false) × (is_awaiting s'.origin.phase ≡ false)

-- and nothing more is asked of the origin
abbrev pub IsOver : State → Type 0
IsOver s' = (awaits_answer s'.client.phase ≡ false) × (is_idle s'.origin.phase ≡ true)

-- a head was made for its client, behind which the connection may end
abbrev pub IsSameButClosing : State → State → Type 0
IsSameButClosing s s' = s' ≡ record s { client = record s.client { closes = s'.client.closes } }

-- its client's side is as far as it was, and is sent bytes of the same kind
abbrev pub IsSameSource : State → State → Type 0
IsSameSource s s' = (s'.client.phase ≡ s.client.phase) × (s'.client.source ≡ s.client.source)

-- its client is sent it, and nobody else is
abbrev pub IsRelayed : State → Type 0
IsRelayed s' = (is_sending s'.client.phase ≡ true) × (is_relay s'.client.source ≡ true) × (is_awaiting s'.origin.phase ≡ false)

-- who waits for it gets it; who had an answer wants none of it
abbrev pub IsHandedOn : State → State → Type 0
IsHandedOn s s' = MatchBool (awaits_answer s.client.phase) (IsRelayed s') (s' ≡ gives_up s)

-- it is stored, and its client reads that as it comes, unless it had an answer
abbrev pub IsStored : State → State → Type 0
IsStored s s' = (is_awaiting s'.origin.phase ≡ false) × MatchBool (awaits_answer s.client.phase) (reads_write s'.client ≡ true) (s'.client.phase ≡ s.client.phase)

-- it was about something else: the origin is asked again
abbrev pub IsAskedAgain : State → Type 0
IsAskedAgain s' = is_awaiting s'.origin.phase ≡ true

-- the tier may have no room for what is to be stored, which is handed on then
abbrev pub IsResponded : ResponseVerdict → State → State → Type 0
IsResponded ResponseVerdict.Bad s s' = IsOver s'
IsResponded ResponseVerdict.StaleOnError s s' = IsOver s'
IsResponded ResponseVerdict.Revalidate s s' = IsAnsweredBy s' ⊎ IsAskedAgain s'
IsResponded ResponseVerdict.Store s s' = IsStored s s' ⊎ IsHandedOn s s'
IsResponded _ s s' = IsHandedOn s s'

-- ==== of which rows these are

-- nothing is stored, and nothing of what was found goes
abbrev pub stores_nothing : ResponseVerdict → Bool
stores_nothing ResponseVerdict.Store = false
stores_nothing ResponseVerdict.RelayAndRemove = false
stores_nothing _ = true

abbrev pub is_stale : ResponseVerdict → Bool
is_stale ResponseVerdict.StaleOnError = true
is_stale _ = false
