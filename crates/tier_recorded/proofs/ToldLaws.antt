-- A tier never answers that there is no record.
use Rattle.std.proofs.Common.{◌≡◌, ◌≢◌, ℕ, true, false, List, [], ◌∷◌, Option, Some, None, Ok, Err, inl, inr, sym, refl, ap, ◌∙◌}
use Rattle.std.specs.Prelude.{Bool, ◌&&◌, not, is_some, MatchOption, ◌⊎◌, if◌then◌else◌}
use Rattle.std.specs.FinMap.{get}
use Rattle.std.proofs.lemmas.Bool.{true≢false}
use Rattle.rand_core.specs.Stream.{Stream}
use Rattle.cache_words.specs.Time.{MomentValue}
use Rattle.cache_entries.specs.declared.entry.CacheEntryKey.{CacheEntryKey}
use Rattle.tier_model.specs.declared.event.Action.{Action}
use Rattle.tier_model.specs.declared.event.Action.TheVariants.{Open, LookUp, Poll, Begin, Revalidate, Piece, Finish, Read, Drop, Purge, Put}
use Rattle.tier_model.specs.declared.event.Done.{Done}
use Rattle.tier_model.specs.declared.event.Event.{Event}
use Rattle.tier_model.specs.declared.event.TierFault.{TierFault}
use Rattle.tier_model.specs.declared.event.TierFault.TheVariants as fault
use Rattle.tier_model.specs.declared.whole.PutVerdict.{PutVerdict}
use Rattle.tier_model.specs.declared.whole.PutVerdict.TheVariants as whole
use Rattle.tier_model.specs.Response.{Judged, kept, not_kept, too_early, not_read}
use Rattle.tier_model.specs.Calls.{Call, Outcome, AreCallsOf, nothing_done, judged_of, read_by, finished_by}
use Rattle.tier_model.specs.Rows.{FinishedBody, weight_for}
use Rattle.tier_model.specs.Shelf.{Shelf, Look, absent, in_flight, finished, flying_at}
use Rattle.tier_model.specs.State.{Request, State}
use Rattle.tier_model.specs.Checks.{refusal, unless, unless_open, look_refusal, piece_refusal, can_look_up, has_permit, is_waiting, can_begin, can_revalidate, has_reader, has_ended}
use Rattle.tier_model.specs.Answers.{look_for, confirmed_for, is_body_seen, finishing, weight_then, IsKeptOut, IsStoreFault, IsPutFault, IsBeginFault, IsRenewalFault, IsFaultBy, IsRevalidateFault, IsFinishFault}
use Rattle.tier_model.specs.Past.{AreTaken}
use Rattle.tier_model.specs.Step.{IsUseFault, IsLockFault, IsLateFault, IsFault, AllowsBy}
use Rattle.tier_single.specs.Takes.{Takes}

-- a fault that only a history knows
abbrev is_unrecorded : TierFault → Bool
is_unrecorded fault.NoRecord = true
is_unrecorded _ = false

-- ---- the faults after the checks

kept-out : (s : State) (e : CacheEntryKey) (w : ℕ) (done : Done) (f : TierFault) → IsKeptOut s e w done f → is_unrecorded f ≡ false
kept-out s e w done (fault.Memory told) p = refl
kept-out s e w done (fault.TooHeavy told) p = refl
kept-out s e w done (fault.TooLong told) p = refl
kept-out s e w done (fault.NumbersSpent told) p = refl
kept-out s e w done fault.NoRecord p = absurd p
kept-out s e w done _ p = refl

store-fault : (s : State) (b : FinishedBody) (f : TierFault) → IsStoreFault s b f → is_unrecorded f ≡ false
store-fault s b f p = elim p [
  | inl out ↦ kept-out s _ _ _ f out
  | inr cut ↦ ap is_unrecorded cut.1
]

put-fault : (s : State) (b : Option FinishedBody) (w : Option PutVerdict) (f : TierFault) → IsPutFault s b w f → is_unrecorded f ≡ false
put-fault s (Some b) w f p = elim p [ inl spent ↦ ap is_unrecorded spent.0 | inr store ↦ store-fault s b f store ]
put-fault s None (Some whole.Incomplete) f p = ap is_unrecorded p
put-fault s None (Some whole.BadHead) f p = ap is_unrecorded p
put-fault s None (Some whole.BeforeEpoch) f p = ap is_unrecorded p
put-fault s None (Some (whole.Stored body)) f p = absurd p
put-fault s None (Some (whole.Uncacheable reason)) f p = absurd p
put-fault s None None f p = absurd p

begin-fault : (s : State) (j : Option Judged) (f : TierFault) → IsBeginFault s j f → is_unrecorded f ≡ false
begin-fault s (Some (kept meta)) f p = ap is_unrecorded p.0
begin-fault s (Some not_read) f p = ap is_unrecorded p
begin-fault s (Some too_early) f p = ap is_unrecorded p
begin-fault s (Some (not_kept reason)) f p = absurd p
begin-fault s None f p = absurd p

unconfirmed : (s : State) (q : Request) (j : Judged) (f : TierFault) → IsRenewalFault s q j f → is_unrecorded f ≡ false
unconfirmed s q (kept meta) f p = elim p [
  | inl out ↦ kept-out s q.entry (weight_then q meta s.shelf) nothing_done f out
  | inr short ↦ ap is_unrecorded short.1
]
unconfirmed s q too_early f p = ap is_unrecorded p
unconfirmed s q (not_kept reason) f p = absurd p
unconfirmed s q not_read f p = absurd p

unrenewed : (b : Bool) (s : State) (q : Request) (j : Judged) (f : TierFault) → IsFaultBy b s q j f → is_unrecorded f ≡ false
unrenewed true s q j f p = unconfirmed s q j f p
unrenewed false s q j f p = ap is_unrecorded p

revalidate-fault : (s : State) (q : Request) (j : Option Judged) (f : TierFault) → IsRevalidateFault s q j f → is_unrecorded f ≡ false
revalidate-fault s q (Some not_read) f p = ap is_unrecorded p
revalidate-fault s q (Some (kept meta)) f p = unrenewed (is_body_seen q s.shelf) s q (kept meta) f p
revalidate-fault s q (Some (not_kept reason)) f p = unrenewed (is_body_seen q s.shelf) s q (not_kept reason) f p
revalidate-fault s q (Some too_early) f p = unrenewed (is_body_seen q s.shelf) s q too_early f p
revalidate-fault s q None f p = absurd p

finish-fault : (s : State) (b : Option FinishedBody) (f : TierFault) → IsFinishFault s b f → is_unrecorded f ≡ false
finish-fault s None f p = ap is_unrecorded p
finish-fault s (Some b) f p = elim p [ inl memory ↦ ap is_unrecorded memory | inr store ↦ store-fault s b f store ]

use-fault : (s : State) (q : Request) (l : Look) (f : TierFault) → IsUseFault s q l f → is_unrecorded f ≡ false
use-fault s q absent f p = absurd p
use-fault s q (in_flight w) f p = absurd p
use-fault s q (finished x) f p = kept-out s q.entry (weight_for x.body) nothing_done f p.1

look-fault : (s : State) (t : MomentValue) (o : Option Request) (f : TierFault) → MatchOption o ⊥ (λ q. IsUseFault s q (look_for q s.shelf) f ⊎ IsLockFault s t q f) → is_unrecorded f ≡ false
look-fault s t None f p = absurd p
look-fault s t (Some q) f p = elim p [ inl used ↦ use-fault s q (look_for q s.shelf) f used | inr locked ↦ ap is_unrecorded locked.0 ]

confirm-fault : (s : State) (c : Call) (o : Option Request) (f : TierFault) → MatchOption o ⊥ (λ q. IsRevalidateFault s q (confirmed_for q c) f) → is_unrecorded f ≡ false
confirm-fault s c None f p = absurd p
confirm-fault s c (Some q) f p = revalidate-fault s q (confirmed_for q c) f p

end-fault : (s : State) (o : Option Request) (f : TierFault) → MatchOption o ⊥ (λ q. IsFinishFault s (finishing q s.shelf) f) → is_unrecorded f ≡ false
end-fault s None f p = absurd p
end-fault s (Some q) f p = finish-fault s (finishing q s.shelf) f p

late-fault : (s : State) (t : MomentValue) (a : Action) (c : Call) (f : TierFault) → IsLateFault s t a c f → is_unrecorded f ≡ false
late-fault s t (Open id key asks) c f p = absurd p
late-fault s t (LookUp id) c f p = look-fault s t (get s.requests id) f p
late-fault s t (Poll id) c f p = absurd p
late-fault s t (Begin id head given) c f p = begin-fault s (judged_of c) f p
late-fault s t (Revalidate id head given) c f p = confirm-fault s c (get s.requests id) f p
late-fault s t (Piece id bytes last) c f p = absurd p
late-fault s t (Finish id) c f p = end-fault s (get s.requests id) f p
late-fault s t (Read id) c f p = absurd p
late-fault s t (Drop id) c f p = absurd p
late-fault s t (Purge key) c f p = absurd p
late-fault s t (Put key pieces given) c f p = put-fault s (finished_by c) (read_by c) f p

any-fault : (s : State) (t : MomentValue) (a : Action) (c : Call) (f : TierFault) → IsFault s t a c f → is_unrecorded f ≡ false
any-fault s t a c f p = elim p [ inl memory ↦ ap is_unrecorded memory.0 | inr late ↦ late-fault s t a c f late ]

-- ---- the checks

abbrev unrecorded_check : Option TierFault → Bool
unrecorded_check None = false
unrecorded_check (Some f) = is_unrecorded f

tested : (b : Bool) (f : TierFault) → is_unrecorded f ≡ false → unrecorded_check (unless b f) ≡ false
tested true f e = refl
tested false f e = e

of-request : (o : Option Request) (check : Request → Option TierFault) → ((q : Request) → unrecorded_check (check q) ≡ false) → unrecorded_check (unless_open o check) ≡ false
of-request None check h = refl
of-request (Some q) check h = h q

look-checked : (q : Request) → unrecorded_check (look_refusal q) ≡ false
look-checked q = by_flag (can_look_up q.phase && not (has_permit q.held))
  where
    by_flag : (b : Bool) → unrecorded_check (if b then unless (not (is_waiting q.held)) fault.Waiting else Some fault.WrongPhase) ≡ false
    by_flag true = tested (not (is_waiting q.held)) fault.Waiting refl
    by_flag false = refl

piece-checked : (n : Option ℕ) (shelf : Shelf) → unrecorded_check (piece_refusal n shelf) ≡ false
piece-checked None shelf = refl
piece-checked (Some n) shelf = tested (not (has_ended (flying_at n shelf.flying))) fault.AfterEnd refl

checked : (s : State) (a : Action) → unrecorded_check (refusal s a) ≡ false
checked s (Open id key asks) = tested (not (is_some (get s.requests id))) fault.IdInUse refl
checked s (LookUp id) = of-request (get s.requests id) look_refusal look-checked
checked s (Poll id) = of-request (get s.requests id) (λ q. unless (is_waiting q.held) fault.WrongPhase) (λ q. tested (is_waiting q.held) fault.WrongPhase refl)
checked s (Begin id head given) =
    of-request (get s.requests id) (λ q. unless (can_begin q.phase q.gave_read) fault.WrongPhase) (λ q. tested (can_begin q.phase q.gave_read) fault.WrongPhase refl)
checked s (Revalidate id head given) =
    of-request (get s.requests id) (λ q. unless (can_revalidate q.phase q.gave_read) fault.WrongPhase) (λ q. tested (can_revalidate q.phase q.gave_read) fault.WrongPhase refl)
checked s (Piece id bytes last) = of-request (get s.requests id) (λ q. piece_refusal q.write s.shelf) (λ q. piece-checked q.write s.shelf)
checked s (Finish id) = of-request (get s.requests id) (λ q. unless (is_some q.write) fault.WrongPhase) (λ q. tested (is_some q.write) fault.WrongPhase refl)
checked s (Read id) = of-request (get s.requests id) (λ q. unless (has_reader q.reader) fault.WrongPhase) (λ q. tested (has_reader q.reader) fault.WrongPhase refl)
checked s (Drop id) = of-request (get s.requests id) (λ q. None) (λ q. refl)
checked s (Purge key) = refl
checked s (Put key pieces given) = refl

-- ---- outcomes

abbrev unrecorded_outcome : Outcome → Bool
unrecorded_outcome (Ok a) = false
unrecorded_outcome (Err f) = is_unrecorded f

allowed : (r : Option TierFault) (s : State) (t : MomentValue) (a : Action) (c : Call) (o : Outcome) → unrecorded_check r ≡ false → AllowsBy r s t a c o → unrecorded_outcome o ≡ false
allowed (Some f) s t a c o e p = ap unrecorded_outcome p ∙ e
allowed None s t a c (Ok answer) e p = refl
allowed None s t a c (Err f) e p = any-fault s t a c f p

pub told : (old : State) (s : Stream) (e : Event) (o : Outcome) (new : State) (rest : Stream) → Takes old s (e ∷ []) (o ∷ []) new rest → o ≡ Err fault.NoRecord → ⊥
told old s e o new rest takes is = by_calls takes.calls takes.are_of takes.taken
  where
    by_calls : (calls : List Call) → AreCallsOf (e ∷ []) (o ∷ []) calls → AreTaken old calls new → ⊥
    by_calls [] are taken = absurd are
    by_calls (c ∷ []) are taken =
        let not_it = allowed (refusal old c.event.action) old c.event.moment c.event.action c c.outcome (checked old c.event.action) taken.0.outcome in
        true≢false (sym (ap unrecorded_outcome (are.1 ∙ is)) ∙ not_it)
    by_calls (c ∷ d ∷ calls) are taken = absurd are.2
