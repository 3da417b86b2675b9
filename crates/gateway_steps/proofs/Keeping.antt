use Rattle.std.proofs.Common.{rules, ◌≡◌, ℕ, ◌||◌, Bool, true, false, not, refl, if◌then◌else◌}
use Rattle.gateway_types.specs.declared.bodies.ClosedVerdict.{ClosedVerdict}
use Rattle.gateway_types.specs.declared.bodies.ClientVerdict.{ClientVerdict}
use Rattle.gateway_types.specs.declared.states.Origin.{Origin}
use Rattle.gateway_rows.specs.Bodies.{client_row, is_awaiting, is_idle, is_storing}
use Rattle.gateway_steps.specs.declared.state.AnswerEnd.{AnswerEnd}
use Rattle.gateway_steps.specs.declared.state.State.{State}
use Rattle.gateway_steps.specs.Invariant.{IsExchange}
use Rattle.gateway_steps.specs.Phases.{is_sending, is_truncated, lacks_end}
use Rattle.gateway_steps.specs.Questions.{answer_end}
use Rattle.gateway_steps.specs.Sides.{client_broken_off, client_refused, origin_at_rest, without_request, without_request_if}
use Rattle.gateway_steps.specs.Steps.{breaks_request, ends_answer, ends_client, leaves, stops}
use Rattle.gateway_steps.specs.Runs.{IsStep, IsReached}
use Rattle.gateway_steps.specs.Runs.IsReached.{first, next}
use Rattle.gateway_steps.specs.Runs.IsStep.{hold, let_go, take_permit, wait, poll_wait, answer, collapse, ask, hear_head, take_interim, take_head, store, relay, give_up, stop, close_origin, hear_body, take_piece, complete, finish, begin_tail, join_tail, pass_stored, end_tailed_write, end_tail, end_reading, pass_bytes, forward_body, break_request, end_answer, leave, lose_permit, hide_write, move_on, meet_purge, overtake, supersede, close_behind, block, read_on}

-- a client that was answered to the end
client_ended : (s : State) → IsExchange s → is_sending s.client.phase ≡ true → lacks_end s.client ≡ false → IsExchange (ends_client s)
client_ended s e h whole = search rules

by_words : (broken closes : Bool) (s : State) → IsExchange (ends_client s)
    → IsExchange (ends_answer (if broken then AnswerEnd.Truncated else (if closes then AnswerEnd.Close else AnswerEnd.End)) s)
by_words true closes s x = x
by_words false true s x = x
by_words false false s x = x

ended : (s : State) → IsExchange s → is_sending s.client.phase ≡ true → IsExchange (ends_answer (answer_end s) s)
ended s e h =
    elim (lacks_end s.client) as (λ b. lacks_end s.client ≡ b → IsExchange (ends_answer (answer_end s) s)) [
      | true ↦ λ w. rw w e
      | false ↦ λ w. rw w (by_words (is_truncated s.client.ending) s.client.closes s (client_ended s e h w))
    ] refl

-- an origin of which nothing more comes
stopped : (s : State) (lacks : Bool) → IsExchange s → is_idle s.origin.phase ≡ false → IsExchange (stops lacks s)
stopped s lacks e h = search rules

-- a request's body that doesn't read, behind a head
refused_behind : (s : State) → IsExchange s → s.client.began ≡ true → IsExchange (record s { client = client_refused s.client })
refused_behind s e h = search rules

-- and before one
refused_before : (s : State) → IsExchange s → is_idle s.origin.phase ≡ true → s.client.began ≡ false
    → IsExchange (record s { client = client_refused s.client; tier = without_request s.tier })
refused_before s e idle h = search rules

-- where nothing is held
refused_without : (s : State) → IsExchange s → s.tier.held ≡ false → IsExchange (record s { client = client_refused s.client })
refused_without s e h = search rules

refused : (s : State) (began : Bool) → s.client.began ≡ began → IsExchange s → is_idle s.origin.phase ≡ true
    → IsExchange (record s { client = client_refused s.client; tier = without_request_if (not began) s.tier })
refused s true h e idle = refused_behind s e h
refused s false h e idle = refused_before s e idle h

broken : (s : State) (lacks : Bool) → IsExchange s → is_idle s.origin.phase ≡ false
    → IsExchange (record s { client = client_refused (client_broken_off lacks s.client); origin = origin_at_rest s.origin; tier = without_request s.tier })
broken s lacks e h = refused_without (stops lacks s) (stopped s lacks e h) refl

request_broken : (s : State) (lacks : Bool) → IsExchange s → IsExchange (breaks_request lacks s)
request_broken s lacks e =
    elim (is_idle s.origin.phase) as (λ b. is_idle s.origin.phase ≡ b → IsExchange (breaks_request lacks s)) [
      | true ↦ λ w. rw w (refused s s.client.began refl e w)
      | false ↦ λ w. rw w (broken s lacks e w)
    ] refl

-- a client that went away, by what becomes of the origin's side
left_idle : (s : State) (now : ℕ) → IsExchange s → is_idle s.origin.phase ≡ true → IsExchange (leaves ClientVerdict.Nothing now s)
left_idle s now e h = search rules

left_going_on : (s : State) (now : ℕ) → IsExchange s → is_storing s.origin.phase || is_awaiting s.origin.phase ≡ true
    → IsExchange (leaves ClientVerdict.GoesOn now s)
left_going_on s now e h = search rules

left_with_tail : (s : State) (now : ℕ) → IsExchange s → s.origin.tailed ≡ true → IsExchange (leaves ClientVerdict.Truncate now s)
left_with_tail s now e h = search rules

left_closing : (s : State) (now : ℕ) → IsExchange s → IsExchange (leaves ClientVerdict.CloseOrigin now s)
left_closing s now e = search rules

left_by : (s : State) (now : ℕ) (origin : Origin) (tailed owes_body : Bool) → s.origin.phase ≡ origin → s.origin.tailed ≡ tailed → IsExchange s
    → IsExchange (leaves (client_row (record { origin = origin; tailed = tailed; owes_body = owes_body })) now s)
left_by s now Origin.Idle tailed owes_body p t e = left_idle s now e (rw p refl)
left_by s now Origin.Storing tailed owes_body p t e = left_going_on s now e (rw p refl)
left_by s now Origin.AwaitingHead tailed false p t e = left_going_on s now e (rw p refl)
left_by s now Origin.AwaitingHead true true p t e = left_with_tail s now e t
left_by s now Origin.AwaitingHead false true p t e = left_closing s now e
left_by s now Origin.Relaying true owes_body p t e = left_with_tail s now e t
left_by s now Origin.Relaying false owes_body p t e = left_closing s now e

-- each step keeps what holds of an exchange
pub kept : (s s' : State) → IsExchange s → IsStep s s' → IsExchange s'
kept _ _ e (hold s h) = search rules
kept _ _ e (let_go s h) = search rules
kept _ _ e (take_permit s now h) = search rules
kept _ _ e (wait s now holder h) = search rules
kept _ _ e (poll_wait s verdict h) = search rules
kept _ _ e (answer s source h) = search rules
kept _ _ e (collapse s writer h) = search rules
kept _ _ e (ask s fetch now sequence h) = search rules
kept _ _ e (hear_head s now h) = search rules
kept _ _ e (take_interim s h) = search rules
kept _ _ e (take_head s head h) = search rules
kept _ _ e (store s number h) = search rules
kept _ _ e (relay s wanted h) = search rules
kept _ _ e (give_up s h) = search rules
kept _ _ e (stop s lacks h) = stopped s lacks e h
kept _ _ e (close_origin s ClosedVerdict.SendAgain now lacks h) = search rules
kept _ _ e (close_origin s ClosedVerdict.End now lacks h) = e
kept _ _ e (close_origin s ClosedVerdict.Timeout now lacks h) = stopped s lacks e h
kept _ _ e (close_origin s ClosedVerdict.NoAnswer now lacks h) = stopped s lacks e h
kept _ _ e (close_origin s ClosedVerdict.Truncate now lacks h) = stopped s lacks e h
kept _ _ e (hear_body s now h) = search rules
kept _ _ e (take_piece s piece h) = search rules
kept _ _ e (complete s h) = search rules
kept _ _ e (finish s finished h) = search rules
kept _ _ e (begin_tail s h) = search rules
kept _ _ e (join_tail s h) = search rules
kept _ _ e (pass_stored s h) = search rules
kept _ _ e (end_tailed_write s) = search rules
kept _ _ e (end_tail s h) = search rules
kept _ _ e (end_reading s truncated h) = search rules
kept _ _ e (pass_bytes s bytes) = search rules
kept _ _ e (forward_body s now has_bytes over h) = search rules
kept _ _ e (break_request s lacks h) = request_broken s lacks e
kept _ _ e (end_answer s h) = ended s e h
kept _ _ e (leave s now h) = left_by s now s.origin.phase s.origin.tailed s.client.owes_body refl refl e
kept _ _ e (lose_permit s) = search rules
kept _ _ e (hide_write s) = search rules
kept _ _ e (move_on s) = search rules
kept _ _ e (meet_purge s) = search rules
kept _ _ e (overtake s) = search rules
kept _ _ e (supersede s) = search rules
kept _ _ e (close_behind s) = search rules
kept _ _ e (block s h) = search rules
kept _ _ e (read_on s now) = search rules

-- a state that steps lead to
pub reached : (s : State) → IsReached s → IsExchange s
reached _ (first owes_body closes) = search rules
reached _ (next s s' r step) = kept s s' (reached s r) step
