-- How far an exchange's sides are, in words.
use Rattle.std.specs.Prelude.{Bool, true, false, not, ◌&&◌, ◌||◌}
use Rattle.gateway_types.specs.declared.states.Client.{Client}
use Rattle.gateway_types.specs.declared.states.Fetch.{Fetch}
use Rattle.gateway_rows.specs.Bodies.{is_idle, is_awaiting, is_storing, is_relaying}
use Rattle.gateway_steps.specs.declared.state.Source.{Source}
use Rattle.gateway_steps.specs.declared.state.Ending.{Ending}
use Rattle.gateway_steps.specs.declared.state.ClientSide.{ClientSide}
use Rattle.gateway_steps.specs.declared.state.State.{State}

-- for another's permit
abbrev pub is_waiting : Client → Bool
is_waiting Client.Waiting = true
is_waiting _ = false

-- its head isn't made yet
abbrev pub awaits_answer : Client → Bool
awaits_answer Client.Awaiting = true
awaits_answer _ = false

abbrev pub is_sending : Client → Bool
is_sending Client.Sending = true
is_sending _ = false

abbrev pub is_done : Client → Bool
is_done Client.Done = true
is_done _ = false

-- what comes is to be stored
abbrev pub is_stored_fetch : Fetch → Bool
is_stored_fetch Fetch.Pass = false
is_stored_fetch Fetch.Unstored = false
is_stored_fetch _ = true

abbrev pub is_pass : Fetch → Bool
is_pass Fetch.Pass = true
is_pass _ = false

abbrev pub is_write : Source → Bool
is_write Source.Write = true
is_write _ = false

abbrev pub is_relay : Source → Bool
is_relay Source.Relay = true
is_relay _ = false

abbrev pub goes_on : Ending → Bool
goes_on Ending.GoesOn = true
goes_on _ = false

abbrev pub is_truncated : Ending → Bool
is_truncated Ending.Truncated = true
is_truncated _ = false

-- the client reads what is being stored
abbrev pub reads_write : ClientSide → Bool
reads_write client = is_sending client.phase && is_write client.source

-- the client is sent what comes for it alone, and more of it is to come
abbrev pub is_relayed_to : ClientSide → Bool
is_relayed_to client = is_sending client.phase && is_relay client.source && goes_on client.ending

-- more of the body may come
abbrev pub lacks_end : ClientSide → Bool
lacks_end client = (is_write client.source || is_relay client.source) && goes_on client.ending

-- within a call alone: what is done for its client is to be decided yet
abbrev pub is_undecided : State → Bool
is_undecided s = awaits_answer s.client.phase && is_idle s.origin.phase

-- others read on in what it stored of a body that grew too long
abbrev pub is_read_on : State → Bool
is_read_on s = s.tier.writes && s.origin.tailed

-- its client was answered or left, and nothing goes on for it or for those who read what it stored: it is forgotten
abbrev pub is_over : State → Bool
is_over s = is_done s.client.phase && is_idle s.origin.phase && not (is_read_on s)

abbrev pub has_body_coming : State → Bool
has_body_coming s = is_storing s.origin.phase || is_relaying s.origin.phase

-- what comes goes to the client, as fast as it takes it: a body, or interim heads
abbrev pub is_for_client : State → Bool
is_for_client s = (is_relaying s.origin.phase && is_sending s.client.phase) || (is_awaiting s.origin.phase && awaits_answer s.client.phase)

-- the client reads in what is stored: all of what another stores, or what is stored in front of a tail
abbrev pub reads_stored : State → Bool
reads_stored s = reads_write s.client && (not s.tier.tailed || s.tier.passing)

-- what a request at the tier is for: a look-up, a wait, a fetch, a write, or reading one
abbrev pub has_use_of_tier : State → Bool
has_use_of_tier s =
    is_undecided s
    || is_waiting s.client.phase
    || is_awaiting s.origin.phase
    || is_storing s.origin.phase
    || reads_stored s
    || is_read_on s

-- all of it is there: a text, or a whole body
abbrev pub is_at_hand : Source → Bool
is_at_hand source = not (is_write source || is_relay source)

-- what an exchange goes on by: the origin, a wait at the tier, a write there that it reads, a tail, an answer that is all there, or those who read on in
-- what it stored
abbrev pub has_next : State → Bool
has_next s =
    not (is_idle s.origin.phase)
    || (is_waiting s.client.phase && s.tier.held)
    || (reads_write s.client && (s.tier.held || s.tier.tailed))
    || (is_sending s.client.phase && not (lacks_end s.client))
    || is_read_on s
