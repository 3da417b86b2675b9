-- Behind a look-up it is decided what is done for its client.
use Rattle.std.proofs.Common.{◌≡◌, ℕ, List, refl, ap, ◌∙◌, true, false, inl, inr}
use Rattle.std.specs.Prelude.{Option, Some, Result, Ok, Err, OnOk}
use Rattle.std.proofs.Math.Bool.{and-false}
use Rattle.std.proofs.lemmas.Bool.{and_parts, and_left, and_right}
use Rattle.rules_ffi_arguments.specs.declared.bad.Bad.{Bad}
use Rattle.gateway_types.specs.declared.looks.LookVerdict.{LookVerdict}
use Rattle.gateway_types.specs.declared.states.Client.{Client}
use Rattle.gateway_types.specs.declared.states.Fetch.{Fetch}
use Rattle.gateway_types.specs.declared.states.Origin.{Origin}
use Rattle.gateway_rows.specs.Bodies.{is_awaiting, is_idle}
use Rattle.gateway_steps.specs.Phases.{awaits_answer, is_done, is_sending, is_undecided, is_waiting, is_write}
use Rattle.gateway_steps.specs.Steps.{asks, lets_go}
use Rattle.gateway_steps.specs.declared.state.Source.{Source}
use Rattle.gateway_steps.specs.declared.state.State.{State}
use Rattle.gateway_rules.specs.Requests.{SentValue}
use Rattle.gateway_exchanges.specs.declared.exchange.Exchange.{Exchange}
use Rattle.gateway_sides.specs.Fetches.{fetch_sent, AsksOrigin}
use Rattle.gateway.specs.Acts.{IsAnswered, IsAsked, IsCollapsed, IsDone}

not_awaiting : (c : Client) → is_sending c ≡ true → awaits_answer c ≡ false
not_awaiting Client.Waiting e = refl
not_awaiting Client.Awaiting e = absurd cc
not_awaiting Client.Sending e = refl
not_awaiting Client.Done e = refl

not_idle : (o : Origin) → is_awaiting o ≡ true → is_idle o ≡ false
not_idle Origin.Idle e = absurd cc
not_idle Origin.AwaitingHead e = refl
not_idle Origin.Storing e = refl
not_idle Origin.Relaying e = refl

-- who waits, or is sent, or is done, has something done
waits_not : (c : Client) → is_waiting c ≡ true → awaits_answer c ≡ false
waits_not Client.Waiting e = refl
waits_not Client.Awaiting e = absurd cc
waits_not Client.Sending e = refl
waits_not Client.Done e = refl

done_not : (c : Client) → is_done c ≡ true → awaits_answer c ≡ false
done_not Client.Waiting e = refl
done_not Client.Awaiting e = absurd cc
done_not Client.Sending e = refl
done_not Client.Done e = refl

pub waiting_decided : (s : State) → is_waiting s.client.phase ≡ true → is_undecided s ≡ false
waiting_decided s e = and_left _ _ (waits_not s.client.phase e)

pub sending_decided : (s : State) → is_sending s.client.phase ≡ true → is_undecided s ≡ false
sending_decided s e = and_left _ _ (not_awaiting s.client.phase e)

pub done_decided : (s : State) → is_done s.client.phase ≡ true → is_undecided s ≡ false
done_decided s e = and_left _ _ (done_not s.client.phase e)

pub asks_decided : (fetch : Fetch) (now n : ℕ) (s s' : State) → s' ≡ asks fetch now n s → is_undecided s' ≡ false
asks_decided fetch now n s s' e = ap is_undecided e ∙ and-false (awaits_answer s.client.phase)

-- who asked the origin, where that was done
pub sent_decided : (r : Result Unit Bad) (f : Option SentValue) (fetch : Fetch) (now n : ℕ) (old new : Exchange) (text : List ℕ)
    → OnOk r ((m : SentValue) × (f ≡ Some m) × AsksOrigin m (fetch_sent fetch m) now n old new × (text ≡ m.head)) → OnOk r (is_undecided new.steps.state ≡ false)
sent_decided (Ok x) f fetch now n old new text h = asks_decided (fetch_sent fetch h.0) now n old.steps.state new.steps.state h.2.state
sent_decided (Err e) f fetch now n old new text h = tt

pub answered : (source : Source) (s s' : State) → IsAnswered source s s' → is_undecided s' ≡ false
answered source s s' (inl e) = ap is_undecided e
answered source s s' (inr e) = ap is_undecided e

pub asked : (now n : ℕ) (s s' : State) → IsAsked now n s s' → is_undecided s' ≡ false
asked now n s s' (fetch, e) = ap is_undecided e ∙ and-false (awaits_answer s.client.phase)

collapsed : (s' : State) → IsCollapsed s' → is_undecided s' ≡ false
collapsed s' (inl h) = and_left _ _ (not_awaiting s'.client.phase ((and_parts (is_sending s'.client.phase) (is_write s'.client.source) h.0).0))
collapsed s' (inr (inl h)) = and_right _ _ (not_idle s'.origin.phase h)
collapsed s' (inr (inr h)) = and_left _ _ (not_awaiting s'.client.phase h.0)

pub decided : (does : LookVerdict) (now n : ℕ) (s s' : State) → IsDone does now n s s' → is_undecided s' ≡ false
decided LookVerdict.Hit now n s s' h = answered Source.Body (lets_go s) s' h
decided LookVerdict.HitAndValidate now n s s' h = answered Source.Body h.0 s' h.2
decided LookVerdict.Collapse now n s s' h = collapsed s' h
decided LookVerdict.LookPast now n s s' h = asked now n s s' h
decided LookVerdict.Pass now n s s' h = asked now n (lets_go s) s' h
decided LookVerdict.Unavailable now n s s' h = answered Source.Text (lets_go s) s' h
decided LookVerdict.Unstored now n s s' h = asked now n (lets_go s) s' h
decided LookVerdict.Wait now n s s' h = ap is_undecided h.1
decided LookVerdict.Conditional now n s s' h = asked now n s s' h
decided LookVerdict.Full now n s s' h = asked now n s s' h
