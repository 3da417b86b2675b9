-- The steps of an exchange, each where it is lawful, and how the sides move by them.
use Rattle.std.specs.Prelude.{◌≡◌, ℕ, Bool, true, false, is_some, ◌&&◌, ◌||◌, not, Option}
use Rattle.gateway_types.specs.declared.states.Client.{Client}
use Rattle.gateway_types.specs.declared.states.Origin.{Origin}
use Rattle.gateway_types.specs.declared.states.Fetch.{Fetch}
use Rattle.gateway_types.specs.declared.waits.WaitVerdict.{WaitVerdict}
use Rattle.gateway_types.specs.declared.bodies.ClosedVerdict.{ClosedVerdict}
use Rattle.gateway_rows.specs.Bodies.{client_row, is_idle, is_awaiting, is_storing, is_relaying}
use Rattle.gateway_steps.specs.declared.state.Source.{Source}
use Rattle.gateway_steps.specs.declared.state.HeadFraming.{HeadFraming}
use Rattle.gateway_steps.specs.declared.state.Piece.{Piece}
use Rattle.gateway_steps.specs.declared.state.State.{State}
use Rattle.gateway_steps.specs.Phases.{is_waiting, awaits_answer, is_sending, is_done, is_undecided, is_at_hand, is_for_client, has_body_coming, reads_write}
use Rattle.gateway_steps.specs.Questions.{answer_end, leaving_of, may_hold}
use Rattle.gateway_steps.specs.Sides.{first_state}
use Rattle.gateway_steps.specs.Steps

-- what each function of an exchange requires, and what it leaves
pub data IsStep : State → State → Type 0 where
  hold : (s : State) → may_hold s ≡ true → IsStep s (Steps.holds s)
  let_go : (s : State) → is_undecided s || is_awaiting s.origin.phase ≡ true → IsStep s (Steps.lets_go s)
  take_permit : (s : State) (now : ℕ) → is_undecided s && s.tier.held && not s.tier.alone ≡ true → IsStep s (Steps.takes_permit now s)
  wait : (s : State) (now : ℕ) (holder : Option ℕ) → is_undecided s && s.tier.held && not (is_some s.tier.permit) ≡ true
      → IsStep s (Steps.waits_for now holder s)
  poll_wait : (s : State) (verdict : WaitVerdict) → is_waiting s.client.phase ≡ true → IsStep s (Steps.ends_wait verdict s)
  answer : (s : State) (source : Source) → awaits_answer s.client.phase && is_at_hand source ≡ true → IsStep s (Steps.answers source s)
  collapse : (s : State) (writer : ℕ) → is_undecided s && s.tier.held && not (is_some s.tier.permit) ≡ true
      → IsStep s (Steps.collapses writer s)
  ask : (s : State) (fetch : Fetch) (now sequence : ℕ) → is_undecided s || is_awaiting s.origin.phase ≡ true
      → IsStep s (Steps.asks fetch now sequence s)
  hear_head : (s : State) (now : ℕ) → is_awaiting s.origin.phase ≡ true → IsStep s (Steps.hears_head now s)
  take_interim : (s : State) → is_awaiting s.origin.phase ≡ true → IsStep s (Steps.takes_interim s)
  take_head : (s : State) (head : HeadFraming) → is_awaiting s.origin.phase ≡ true → IsStep s (Steps.takes_head head s)
  store : (s : State) (number : ℕ) → is_awaiting s.origin.phase && s.tier.held ≡ true → IsStep s (Steps.stores number s)
  relay : (s : State) (wanted : Bool) → is_awaiting s.origin.phase ≡ true → IsStep s (Steps.relays wanted s)
  give_up : (s : State) → is_awaiting s.origin.phase && not (awaits_answer s.client.phase) ≡ true → IsStep s (Steps.gives_up s)
  stop : (s : State) (lacks : Bool) → is_idle s.origin.phase ≡ false → IsStep s (Steps.stops lacks s)
  close_origin : (s : State) (verdict : ClosedVerdict) (now : ℕ) (lacks : Bool) → is_idle s.origin.phase ≡ false
      → IsStep s (Steps.closes_origin verdict now lacks s)
  hear_body : (s : State) (now : ℕ) → has_body_coming s ≡ true → IsStep s (Steps.hears_body now s)
  take_piece : (s : State) (piece : Piece) → has_body_coming s ≡ true → IsStep s (Steps.takes_piece piece s)
  complete : (s : State) → is_relaying s.origin.phase ≡ true → IsStep s (Steps.completes s)
  finish : (s : State) (finished : Bool) → is_storing s.origin.phase ≡ true → IsStep s (Steps.finishes finished s)
  begin_tail : (s : State) → is_storing s.origin.phase && reads_write s.client ≡ true → IsStep s (Steps.begins_tail s)
  join_tail : (s : State) → reads_write s.client ≡ true → IsStep s (Steps.joins_tail s)
  pass_stored : (s : State) → s.tier.passing ≡ true → IsStep s (Steps.passes_stored s)
  end_tailed_write : (s : State) → IsStep s (Steps.ends_tailed_write s)
  end_tail : (s : State) → is_relaying s.origin.phase && s.origin.tailed ≡ true → IsStep s (Steps.ends_tail s)
  end_reading : (s : State) (truncated : Bool) → reads_write s.client ≡ true → IsStep s (Steps.ends_reading truncated s)
  pass_bytes : (s : State) (bytes : ℕ) → IsStep s (Steps.passes_bytes bytes s)
  forward_body : (s : State) (now : ℕ) (has_bytes over : Bool) → s.client.owes_body ≡ true → IsStep s (Steps.forwards now has_bytes over s)
  break_request : (s : State) (lacks : Bool) → s.client.owes_body ≡ true → IsStep s (Steps.breaks_request lacks s)
  end_answer : (s : State) → is_sending s.client.phase ≡ true → IsStep s (Steps.ends_answer (answer_end s) s)
  leave : (s : State) (now : ℕ) → is_done s.client.phase ≡ false → IsStep s (Steps.leaves (client_row (leaving_of s)) now s)
  lose_permit : (s : State) → IsStep s (Steps.loses_permit s)
  hide_write : (s : State) → IsStep s (Steps.hides_write s)
  move_on : (s : State) → IsStep s (Steps.moves_on s)
  meet_purge : (s : State) → IsStep s (Steps.meets_purge s)
  overtake : (s : State) → IsStep s (Steps.overtakes s)
  supersede : (s : State) → IsStep s (Steps.supersedes s)
  close_behind : (s : State) → IsStep s (Steps.closes_behind s)
  block : (s : State) → is_for_client s ≡ true → IsStep s (Steps.blocks s)
  read_on : (s : State) (now : ℕ) → IsStep s (Steps.reads_on now s)

-- a state that steps lead to
pub data IsReached : State → Type 0 where
  first : (owes_body closes : Bool) → IsReached (first_state owes_body closes)
  next : (s s' : State) → IsReached s → IsStep s s' → IsReached s'

-- who waits looks again before it is answered; behind an answer nobody goes back
abbrev pub client_goes : Client → Client → Bool
client_goes Client.Waiting to = not (is_sending to)
client_goes Client.Awaiting to = true
client_goes Client.Sending to = is_sending to || is_done to
client_goes Client.Done to = is_done to

-- a head is awaited before a body comes, and a body ends before anything else is asked; what grows too long to be stored comes on for who reads it
abbrev pub origin_goes : Origin → Origin → Bool
origin_goes Origin.Idle to = is_idle to || is_awaiting to
origin_goes Origin.AwaitingHead to = true
origin_goes Origin.Storing to = not (is_awaiting to)
origin_goes Origin.Relaying to = is_relaying to || is_idle to

-- how the two sides move together
pub record GoesOneWay (s s' : State) : Type 0 where
  pub client : client_goes s.client.phase s'.client.phase ≡ true
  pub origin : origin_goes s.origin.phase s'.origin.phase ≡ true
  -- nobody asks, or waits, but who has no answer and asked for none yet
  pub asks : is_idle s.origin.phase && is_awaiting s'.origin.phase ≡ true → is_undecided s ≡ true
  pub waits : not (is_waiting s.client.phase) && is_waiting s'.client.phase ≡ true → is_undecided s ≡ true
  -- a final head is made once
  pub head : s.client.began ≡ true → s'.client.began ≡ true
