-- What each side of an exchange is after a change, and what it holds at the tier.
use Rattle.std.specs.Prelude.{ℕ, Bool, true, false, not, is_some, ◌&&◌, ◌||◌, ◌+◌, ◌-◌, ◌^◌, if◌then◌else◌, min, None}
use Rattle.gateway_types.specs.declared.states.Client.{Client}
use Rattle.gateway_types.specs.declared.states.Origin.{Origin}
use Rattle.gateway_types.specs.declared.states.Fetch.{Fetch}
use Rattle.gateway_types.specs.declared.bodies.ClosedVerdict.{ClosedVerdict}
use Rattle.gateway_types.specs.declared.bodies.ClientVerdict.{ClientVerdict}
use Rattle.gateway_steps.specs.declared.state.Source.{Source}
use Rattle.gateway_steps.specs.declared.state.Ending.{Ending}
use Rattle.gateway_steps.specs.declared.state.ClientSide.{ClientSide}
use Rattle.gateway_steps.specs.declared.state.OriginSide.{OriginSide}
use Rattle.gateway_steps.specs.declared.state.AtTier.{AtTier}
use Rattle.gateway_steps.specs.declared.state.Released.{Released}
use Rattle.gateway_steps.specs.declared.state.State.{State}
use Rattle.gateway_steps.specs.Phases.{is_waiting, is_sending, is_write, lacks_end}

-- a sum of moments or of bytes stays at the greatest number
abbrev pub capped_sum : ℕ → ℕ → ℕ
capped_sum a b = min (a + b) (2 ^ 64 - 1)

-- a request has come: what is done for it is to be decided
abbrev pub first_state : Bool → Bool → State
first_state owes_body closes = record {
  client = record {
    phase = Client.Awaiting;
    began = false;
    closes = closes;
    source = Source.Text;
    ending = Ending.GoesOn;
    place = 0;
    owes_body = owes_body;
  };
  origin = record {
    phase = Origin.Idle;
    fetch = Fetch.Pass;
    sequence = 0;
    leads = false;
    asked = 0;
    word = 0;
    came = None;
    spoke = false;
    body_sent = false;
    sent_again = false;
    blocked = false;
    purged = false;
    overtaken = false;
    superseded = false;
    close_delimited = false;
    reusable = false;
    length = None;
    size = 0;
    unread = 0;
    tailed = false;
    stored = 0;
  };
  tier = record {
    held = false;
    writes = false;
    joinable = false;
    permit = None;
    alone = false;
    collapsed = false;
    since = None;
    holder = None;
    moved = false;
    writer = None;
    tailed = false;
    passing = false;
  };
}

-- its request there ends, and with it its permit, its write, its wait, its reading in what is stored
abbrev pub without_request : AtTier → AtTier
without_request tier = record tier { held = false; permit = None; writes = false; joinable = false; holder = None; moved = false; passing = false }

-- what ends so
abbrev pub release_of : AtTier → Released
release_of tier = record { request = tier.held; permit = is_some tier.permit; write = tier.writes }

abbrev pub no_release : Released
no_release = record { request = false; permit = false; write = false }

-- the same, where it ends
abbrev pub without_request_if : Bool → AtTier → AtTier
without_request_if ends tier = if ends then without_request tier else tier

abbrev pub release_if : Bool → AtTier → Released
release_if ends tier = if ends then release_of tier else no_release

abbrev pub client_sending : Source → Ending → ClientSide → ClientSide
client_sending source ending client = record client { phase = Client.Sending; began = true; source = source; ending = ending; place = 0 }

-- nothing is awaited any more
abbrev pub origin_at_rest : OriginSide → OriginSide
origin_at_rest origin = record origin { phase = Origin.Idle; blocked = false }

-- who is sent a body that goes no further: broken off, unless it lacks nothing of it
abbrev pub client_broken_off : Bool → ClientSide → ClientSide
client_broken_off lacks client =
    if is_sending client.phase && lacks_end client
    then record client { ending = if is_write client.source && not lacks then Ending.Whole else Ending.Truncated }
    else client

abbrev pub release_by_close : ClosedVerdict → AtTier → Released
release_by_close ClosedVerdict.SendAgain tier = no_release
release_by_close ClosedVerdict.End tier = no_release
release_by_close _ tier = release_of tier

-- all came that is stored; the tier has it, or lost the write to a purge
abbrev pub tier_after_write : Bool → AtTier → AtTier
tier_after_write finished tier = record tier { writes = not finished && tier.writes; joinable = false }

-- the request's body doesn't read: who has no answer gets one that says so, behind which its connection ends
abbrev pub client_refused : ClientSide → ClientSide
client_refused client = record client {
  phase = if is_waiting client.phase then Client.Awaiting else client.phase;
  closes = client.closes || not client.began;
  owes_body = false;
}

abbrev pub client_done : ClientSide → ClientSide
client_done client = record client { phase = Client.Done; source = Source.Text }

-- it went away
abbrev pub client_gone : ClientSide → ClientSide
client_gone client = record (client_done client) { owes_body = false }

-- it reads no more in what is stored
abbrev pub tier_passed : AtTier → AtTier
tier_passed tier = record tier { passing = false }

-- the same, where its request ends
abbrev pub tier_without : Bool → AtTier → AtTier
tier_without ends tier = if ends then without_request tier else tier_passed tier

-- all who read in what was stored of a body have passed it: its request there ends, and nobody is left who would be woken by that
abbrev pub release_of_passed : Bool → AtTier → Released
release_of_passed ends tier = record (release_if ends tier) { write = false }

-- what was stopped is read on
abbrev pub origin_read_on : ℕ → OriginSide → OriginSide
origin_read_on now origin = record origin { blocked = false; word = if origin.blocked then now else origin.word }

-- `read_on`: others read on in what it stored
abbrev pub release_by_leaving : ClientVerdict → Bool → AtTier → Released
release_by_leaving ClientVerdict.GoesOn read_on tier = no_release
release_by_leaving ClientVerdict.Truncate read_on tier = no_release
release_by_leaving ClientVerdict.Nothing read_on tier = release_if (not read_on) tier
release_by_leaving _ read_on tier = release_of tier
