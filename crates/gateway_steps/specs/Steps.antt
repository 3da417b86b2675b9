-- What each step changes of an exchange's state.
use Rattle.std.specs.Prelude.{ℕ, Bool, true, false, not, is_some, unwrap_or, ◌&&◌, ◌||◌, if◌then◌else◌, Option, Some, None}
use Rattle.gateway_types.specs.declared.states.Client.{Client}
use Rattle.gateway_types.specs.declared.states.Origin.{Origin}
use Rattle.gateway_types.specs.declared.states.Fetch.{Fetch}
use Rattle.gateway_types.specs.declared.waits.WaitVerdict.{WaitVerdict}
use Rattle.gateway_types.specs.declared.bodies.ClosedVerdict.{ClosedVerdict}
use Rattle.gateway_types.specs.declared.bodies.ClientVerdict.{ClientVerdict}
use Rattle.gateway_rows.specs.Bodies.{is_idle, is_awaiting}
use Rattle.gateway_steps.specs.declared.state.AnswerEnd.{AnswerEnd}
use Rattle.gateway_steps.specs.declared.state.Source.{Source}
use Rattle.gateway_steps.specs.declared.state.Ending.{Ending}
use Rattle.gateway_steps.specs.declared.state.HeadFraming.{HeadFraming}
use Rattle.gateway_steps.specs.declared.state.Piece.{Piece}
use Rattle.gateway_steps.specs.declared.state.Released.{Released}
use Rattle.gateway_steps.specs.declared.state.State.{State}
use Rattle.gateway_steps.specs.Phases.{is_waiting, awaits_answer, is_stored_fetch, is_pass, is_read_on, reads_write}
use Rattle.gateway_steps.specs.Sides.{capped_sum, without_request, without_request_if, no_release, release_if, client_sending, origin_at_rest, client_broken_off, tier_after_write, client_refused, client_done, client_gone, origin_read_on, tier_passed, tier_without, release_of_passed}

-- ==== the tier

abbrev pub holds : State → State
holds s = record s { tier = record s.tier { held = true } }

abbrev pub lets_go : State → State
lets_go s = record s { tier = without_request s.tier }

abbrev pub takes_permit : ℕ → State → State
takes_permit now s = record s { tier = record s.tier { permit = Some now } }

-- ==== a wait

-- who waits again goes on with its first wait
abbrev pub waits_for : ℕ → Option ℕ → State → State
waits_for now holder s = record s {
  client = record s.client { phase = Client.Waiting };
  tier = record s.tier { collapsed = true; since = Some (unwrap_or s.tier.since now); holder = holder };
}

abbrev pub looks_again : Bool → State → State
looks_again alone s = record s { client = record s.client { phase = Client.Awaiting }; tier = record (without_request s.tier) { alone = alone } }

abbrev pub ends_wait : WaitVerdict → State → State
ends_wait WaitVerdict.Wait s = s
ends_wait WaitVerdict.Again s = looks_again false s
ends_wait WaitVerdict.Alone s = looks_again true s
ends_wait WaitVerdict.Share s = looks_again true s

-- ==== an answer

-- by what is at hand: no interim heads follow that it may be slow to take, and who asks nothing of the origin holds nothing any more
abbrev pub answers : Source → State → State
answers source s = record s {
  client = client_sending source Ending.GoesOn s.client;
  origin = record s.origin { blocked = false };
  tier = without_request_if (is_idle s.origin.phase) s.tier;
}

-- by what another stores
abbrev pub collapses : ℕ → State → State
collapses writer s = record s {
  client = client_sending Source.Write Ending.GoesOn s.client;
  tier = record s.tier { writer = Some writer };
}

-- ==== the origin

abbrev pub asks : Fetch → ℕ → ℕ → State → State
asks fetch now sequence s =
    let tier = without_request_if (not (is_stored_fetch fetch)) s.tier in
    record s {
      origin = record s.origin {
        phase = Origin.AwaitingHead;
        fetch = fetch;
        sequence = sequence;
        leads = is_some tier.permit;
        asked = now;
        word = now;
        came = None;
        spoke = false;
        sent_again = false;
        blocked = false;
        purged = false;
        overtaken = false;
        superseded = false;
      };
      tier = tier;
    }

-- bytes of a head came
abbrev pub hears_head : ℕ → State → State
hears_head now s = record s { origin = record s.origin { came = Some (unwrap_or s.origin.came now); word = now; spoke = true; blocked = false } }

-- a head was read behind which another comes
abbrev pub takes_interim : State → State
takes_interim s = record s { origin = record s.origin { came = None } }

-- a final head was read
abbrev pub takes_head : HeadFraming → State → State
takes_head head s = record s {
  origin = record s.origin {
    close_delimited = head.close_delimited;
    reusable = head.reusable;
    length = head.length;
    size = 0;
    unread = 0;
  };
}

-- its write has begun, which its client reads if that has no answer yet
abbrev pub stores : ℕ → State → State
stores number s = record s {
  client = if awaits_answer s.client.phase then client_sending Source.Write Ending.GoesOn s.client else s.client;
  origin = record s.origin { phase = Origin.Storing; blocked = false };
  tier = record s.tier { permit = None; writes = true; joinable = true; writer = Some number };
}

-- nothing of it is stored; the client gets it if that has no answer yet, and of its body what it wants
abbrev pub relays : Bool → State → State
relays wanted s =
    if awaits_answer s.client.phase then record s {
      client = client_sending Source.Relay (if wanted then Ending.GoesOn else Ending.Whole) s.client;
      origin = record s.origin { phase = if wanted then Origin.Relaying else Origin.Idle; blocked = false };
      tier = without_request s.tier;
    }
    else record s { origin = origin_at_rest s.origin; tier = without_request s.tier }

-- the rest of it isn't wanted
abbrev pub gives_up : State → State
gives_up s = record s { origin = origin_at_rest s.origin; tier = without_request s.tier }

-- no head comes, or no more of a body
abbrev pub stops : Bool → State → State
stops lacks s = record s { client = client_broken_off lacks s.client; origin = origin_at_rest s.origin; tier = without_request s.tier }

abbrev pub closes_origin : ClosedVerdict → ℕ → Bool → State → State
closes_origin ClosedVerdict.SendAgain now lacks s = record s { origin = record s.origin { sent_again = true; word = now } }
closes_origin ClosedVerdict.End now lacks s = s
closes_origin _ now lacks s = stops lacks s

-- ==== a body

abbrev pub hears_body : ℕ → State → State
hears_body now s = record s { origin = record s.origin { word = now; blocked = false } }

abbrev pub takes_piece : Piece → State → State
takes_piece piece s = record s {
  origin = record s.origin {
    size = capped_sum s.origin.size piece.bytes;
    unread = if piece.read then 0 else capped_sum s.origin.unread piece.bytes;
  };
}

-- all came that the client gets
abbrev pub completes : State → State
completes s = record s { client = record s.client { ending = Ending.Whole }; origin = origin_at_rest s.origin }

-- its request at the tier stays open while its own client reads what was stored
abbrev pub finishes : Bool → State → State
finishes finished s = record s {
  origin = origin_at_rest s.origin;
  tier = without_request_if (not (reads_write s.client)) (tier_after_write finished s.tier);
}

-- who reads a write has what it wants of it, or finds it broken off
abbrev pub ends_reading : Bool → State → State
ends_reading truncated s = record s { client = record s.client { ending = if truncated then Ending.Truncated else Ending.Whole } }

abbrev pub passes_bytes : ℕ → State → State
passes_bytes bytes s = record s { client = record s.client { place = capped_sum s.client.place bytes } }

-- ==== a tail

-- it grew too long to be stored: nobody finds it any more, and its own client goes on in a tail once it has passed what was stored
abbrev pub begins_tail : State → State
begins_tail s = record s {
  origin = record s.origin { phase = Origin.Relaying; tailed = true; stored = s.origin.size };
  tier = record s.tier { joinable = false; tailed = true; passing = true };
}

-- so does who reads what another stored; who writes has a tail of its own
abbrev pub joins_tail : State → State
joins_tail s = if s.tier.writes then s else record s { tier = record s.tier { tailed = true; passing = s.tier.held } }

-- it has passed what was stored: its request at the tier ends, unless that is for those who read on there
abbrev pub passes_stored : State → State
passes_stored s = record s { tier = tier_without (not (is_read_on s)) s.tier }

-- the last one has
abbrev pub ends_tailed_write : State → State
ends_tailed_write s = record s { tier = without_request_if (is_read_on s) s.tier }

abbrev pub release_by_last : State → Released
release_by_last s = release_of_passed (is_read_on s) s.tier

-- all of it came
abbrev pub ends_tail : State → State
ends_tail s = record s { origin = origin_at_rest s.origin }

-- ==== the request's body

abbrev pub is_forwarded : Bool → State → Bool
is_forwarded has_bytes s = has_bytes && not (is_idle s.origin.phase) && is_pass s.origin.fetch

abbrev pub forwards : ℕ → Bool → Bool → State → State
forwards now has_bytes over s = record s {
  client = record s.client { owes_body = not over };
  origin = if is_forwarded has_bytes s
      then record s.origin { body_sent = true; word = if s.origin.spoke then s.origin.word else now }
      else s.origin;
}

abbrev pub breaks_request : Bool → State → State
breaks_request lacks s =
    if is_idle s.origin.phase
    then record s { client = client_refused s.client; tier = without_request_if (not s.client.began) s.tier }
    else record s { client = client_refused (client_broken_off lacks s.client); origin = origin_at_rest s.origin; tier = without_request s.tier }

-- ==== the ends

-- nothing goes on at the tier for it, nor for those who read on in what it stored
abbrev pub is_at_end : State → Bool
is_at_end s = is_idle s.origin.phase && not (is_read_on s)

-- it was answered to the end
abbrev pub ends_client : State → State
ends_client s = record s {
  client = client_done s.client;
  origin = record s.origin { blocked = false };
  tier = tier_without (is_at_end s) s.tier;
}

abbrev pub ends_answer : AnswerEnd → State → State
ends_answer AnswerEnd.GoesOn s = s
ends_answer _ s = ends_client s

abbrev pub release_by_end : AnswerEnd → State → Released
release_by_end AnswerEnd.GoesOn s = no_release
release_by_end _ s = release_if (is_at_end s) s.tier

abbrev pub leaves : ClientVerdict → ℕ → State → State
leaves ClientVerdict.GoesOn now s = record s {
  client = client_gone s.client;
  origin = origin_read_on now s.origin;
}
leaves ClientVerdict.Nothing now s = record s { client = client_gone s.client; tier = tier_without (not (is_read_on s)) s.tier }
-- its tail is to break off yet
leaves ClientVerdict.Truncate now s = record s {
  client = client_gone s.client;
  origin = record s.origin { blocked = false };
  tier = tier_passed s.tier;
}
leaves _ now s = record s { client = client_gone s.client; origin = origin_at_rest s.origin; tier = without_request s.tier }

-- ==== what others do

abbrev pub loses_permit : State → State
loses_permit s = record s { tier = record s.tier { permit = None } }

abbrev pub hides_write : State → State
hides_write s = record s { tier = record s.tier { joinable = false } }

abbrev pub moves_on : State → State
moves_on s = record s { tier = record s.tier { moved = s.tier.moved || is_waiting s.client.phase } }

-- what is fetched isn't stored, and who waits for it looks again
abbrev pub meets_purge : State → State
meets_purge s =
    if is_idle s.origin.phase then s
    else record s {
      origin = record s.origin { purged = true };
      tier = without_request_if (is_awaiting s.origin.phase && is_some s.tier.permit) s.tier;
    }

abbrev pub release_by_purge : State → Released
release_by_purge s = release_if (is_awaiting s.origin.phase && is_some s.tier.permit) s.tier

abbrev pub overtakes : State → State
overtakes s = record s { origin = record s.origin { overtaken = true } }

abbrev pub supersedes : State → State
supersedes s = record s { origin = record s.origin { superseded = true } }

abbrev pub closes_behind : State → State
closes_behind s = record s { client = record s.client { closes = true } }

abbrev pub blocks : State → State
blocks s = record s { origin = record s.origin { blocked = true } }

abbrev pub reads_on : ℕ → State → State
reads_on now s = record s { origin = record s.origin { blocked = false; word = now } }
