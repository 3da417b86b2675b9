-- A call leaves what is said of the requests that it does not name.
use Rattle.cache_heads.specs.declared.given.GivenMeta.{GivenMeta}
use Rattle.std.proofs.Common.{◌≡◌, ℕ, refl, ap, true, false, cond, [], ◌==◌}
use Rattle.std.specs.Prelude.{Bool, List, Option, Some, None, Ok, Err, ◌&&◌}
use Rattle.cache_words.specs.Time.{MomentValue}
use Rattle.cache_changes.specs.Changes.{Write}
use Rattle.cache_changes.specs.Store.{Stored}
use Rattle.tier_model.specs.declared.event.Action.{Action}
use Rattle.tier_model.specs.declared.event.Action.TheVariants.{Open, LookUp, Poll, Begin, Revalidate, Piece, Finish, Read, Drop, Purge, Put}
use Rattle.tier_model.specs.declared.event.Answer.TheVariants.{Opened, Found, Absent, Waited, Begun, Dropped}
use Rattle.tier_model.specs.declared.event.Answer.TheVariants as answer
use Rattle.tier_model.specs.declared.event.TierFault.{TierFault}
use Rattle.tier_model.specs.Keys.{Entry, entry_of}
use Rattle.tier_model.specs.Calls.{Outcome, done_of, is_confirmation, entry_after, asks_after, is_end_of_reader, bytes_given, bytes_answered}
use Rattle.tier_model.specs.Histories.{Kept, seen_after, is_landing, write_after}
use Rattle.tier_model.specs.Standings.{no_lock, Wait, no_wait, hold_given, wait_polled, wait_after}
use Rattle.tier_model.specs.Standings.{RequestStanding, own_opened, own_looked, own_begun, phase_found, phase_absent, reads_found, no_reader, as_it_comes, reads_on, own_after}
use Rattle.tier_model.specs.State.{begun, disabled, revalidated}
use Rattle.tier_model.proofs.CallLaws.{named_by, is_named}

-- the words on a request's calls leave what another's call finds
pub record IsOther (id : ℕ) (t : MomentValue) (action : Action) (o : Outcome) : Type 0 where
  pub key : (old : Option Entry) → entry_after id action o old ≡ old
  pub asks : (old : Bool) → asks_after id action o old ≡ old
  pub write : (new old : Option (Write Kept)) → write_after id new action o old ≡ old
  pub seen : (shown old : Option (Stored Kept)) → seen_after id shown action o old ≡ old
  pub own : (old : RequestStanding) → own_after id action o old ≡ old
  pub wait : (old : Wait) → wait_after id t action o old ≡ old
  pub reader : is_end_of_reader id action o ≡ false
  pub bytes : bytes_given id action o ≡ []

other_key : (id : ℕ) (action : Action) (o : Outcome) (old : Option Entry) → is_named id (named_by action) ≡ false → entry_after id action o old ≡ old
other_key id (Open r key asks) (Ok Opened) old e = ap (λ v. cond v (Some (entry_of key)) old) e
other_key id (Drop r) (Ok Dropped) old e = ap (λ v. cond v None old) e
other_key id _ _ old e = refl

other_asks : (id : ℕ) (action : Action) (o : Outcome) (old : Bool) → is_named id (named_by action) ≡ false → asks_after id action o old ≡ old
other_asks id (Open r key asks) (Ok Opened) old e = ap (λ v. cond v asks old) e
other_asks id _ _ old e = refl

other_write : (id : ℕ) (action : Action) (o : Outcome) (new old : Option (Write Kept)) → is_named id (named_by action) ≡ false → write_after id new action o old ≡ old
other_write id (Begin r head given) (Ok Begun) new old e = ap (λ v. cond v new old) e
other_write id (Finish r) o new old e = ap (λ v. cond (v && is_landing o) None old) e
other_write id (Drop r) (Ok a) new old e = ap (λ v. cond v None old) e
other_write id _ _ new old e = refl

other_seen : (id : ℕ) (action : Action) (o : Outcome) (shown old : Option (Stored Kept)) → is_named id (named_by action) ≡ false → seen_after id shown action o old ≡ old
other_seen id (Open r key asks) (Ok Opened) shown old e = ap (λ v. cond v None old) e
other_seen id (LookUp r) (Ok (Found fresh complete given)) shown old e = ap (λ v. cond v (cond fresh None shown) old) e
other_seen id (LookUp r) (Ok (Absent given)) shown old e = ap (λ v. cond v None old) e
other_seen id (Begin r head given) (Ok a) shown old e = ap (λ v. cond v None old) e
other_seen id (Revalidate r head given) o shown old e = ap (λ v. cond (v && is_confirmation o) None old) e
other_seen id (Drop r) (Ok a) shown old e = ap (λ v. cond v None old) e
other_seen id _ _ shown old e = refl

other_own : (id : ℕ) (action : Action) (o : Outcome) (old : RequestStanding) → is_named id (named_by action) ≡ false → own_after id action o old ≡ old
other_own id (Open r key asks) (Ok Opened) old e = ap (λ v. cond v own_opened old) e
other_own id (LookUp r) (Ok (Found fresh complete given)) old e = ap (λ v. cond v (own_looked (phase_found fresh) (reads_found complete) given) old) e
other_own id (LookUp r) (Ok (Absent given)) old e = ap (λ v. cond v (own_looked (phase_absent given old.phase) no_reader given) old) e
other_own id (Begin r head given) (Ok Begun) old e = ap (λ v. cond v (own_begun begun as_it_comes old) old) e
other_own id (Begin r head given) (Ok (answer.Uncacheable reason)) old e = ap (λ v. cond v (own_begun disabled no_reader old) old) e
other_own id (Revalidate r head given) o old e = ap (λ v. cond (v && is_confirmation o) (record old { phase = revalidated }) old) e
other_own id (Read r) (Ok a) old e = ap (λ v. cond v (record old { reads = reads_on old.reads }) old) e
other_own id _ _ old e = refl

other_wait : (id : ℕ) (t : MomentValue) (action : Action) (o : Outcome) (old : Wait) → is_named id (named_by action) ≡ false → wait_after id t action o old ≡ old
other_wait id t (Open r key asks) (Ok Opened) old e = ap (λ v. cond v no_wait old) e
other_wait id t (LookUp r) (Ok (Found fresh complete given)) old e = ap (λ v. cond v (record old { hold = hold_given given old.hold }) old) e
other_wait id t (LookUp r) (Ok (Absent given)) old e = ap (λ v. cond v (record old { hold = hold_given given old.hold }) old) e
other_wait id t (Poll r) (Ok (Waited told)) old e = ap (λ v. cond v (wait_polled t told old.hold old) old) e
other_wait id t (Begin r head given) (Ok a) old e = ap (λ v. cond v (record old { hold = no_lock }) old) e
other_wait id t (Revalidate r head given) o old e = ap (λ v. cond (v && is_confirmation o) (record old { hold = no_lock }) old) e
other_wait id t _ _ old e = refl

other_reader : (id : ℕ) (action : Action) (o : Outcome) → is_named id (named_by action) ≡ false → is_end_of_reader id action o ≡ false
other_reader id (LookUp r) (Ok a) e = e
other_reader id (Begin r head given) (Ok a) e = e
other_reader id (Drop r) (Ok a) e = e
other_reader id _ _ e = refl

other_bytes : (id : ℕ) (action : Action) (o : Outcome) → is_named id (named_by action) ≡ false → bytes_given id action o ≡ []
other_bytes id (Read r) (Ok a) e = ap (λ v. cond v (bytes_answered a) []) e
other_bytes id _ _ e = refl

pub other-call : (id : ℕ) (t : MomentValue) (action : Action) (o : Outcome) → is_named id (named_by action) ≡ false → IsOther id t action o
other-call id t action o e = record {
  key = λ old. other_key id action o old e;
  asks = λ old. other_asks id action o old e;
  write = λ new old. other_write id action o new old e;
  seen = λ shown old. other_seen id action o shown old e;
  own = λ old. other_own id action o old e;
  wait = λ old. other_wait id t action o old e;
  reader = other_reader id action o e;
  bytes = other_bytes id action o e;
}

-- a refusal but of a finish or a revalidation leaves all requests alone
abbrev pub may_turn : Action → Bool
may_turn (Finish r) = true
may_turn (Revalidate r head given) = true
may_turn _ = false

pub quiet-call : (t : MomentValue) (action : Action) (f : TierFault) (id : ℕ) → may_turn action ≡ false → IsOther id t action (Err f)
quiet-call t (Finish r) f id e = absurd cc
quiet-call t (Revalidate r head given) f id e = absurd cc
quiet-call t (Open k key asks) f id e = record { key = λ old. refl; asks = λ old. refl; write = λ new old. refl; seen = λ shown old. refl; own = λ old. refl; wait = λ old. refl; reader = refl; bytes = refl }
quiet-call t (LookUp k) f id e = record { key = λ old. refl; asks = λ old. refl; write = λ new old. refl; seen = λ shown old. refl; own = λ old. refl; wait = λ old. refl; reader = refl; bytes = refl }
quiet-call t (Poll k) f id e = record { key = λ old. refl; asks = λ old. refl; write = λ new old. refl; seen = λ shown old. refl; own = λ old. refl; wait = λ old. refl; reader = refl; bytes = refl }
quiet-call t (Begin k head given) f id e = record { key = λ old. refl; asks = λ old. refl; write = λ new old. refl; seen = λ shown old. refl; own = λ old. refl; wait = λ old. refl; reader = refl; bytes = refl }
quiet-call t (Piece k bytes last) f id e = record { key = λ old. refl; asks = λ old. refl; write = λ new old. refl; seen = λ shown old. refl; own = λ old. refl; wait = λ old. refl; reader = refl; bytes = refl }
quiet-call t (Read k) f id e = record { key = λ old. refl; asks = λ old. refl; write = λ new old. refl; seen = λ shown old. refl; own = λ old. refl; wait = λ old. refl; reader = refl; bytes = refl }
quiet-call t (Drop k) f id e = record { key = λ old. refl; asks = λ old. refl; write = λ new old. refl; seen = λ shown old. refl; own = λ old. refl; wait = λ old. refl; reader = refl; bytes = refl }
quiet-call t (Purge key) f id e = record { key = λ old. refl; asks = λ old. refl; write = λ new old. refl; seen = λ shown old. refl; own = λ old. refl; wait = λ old. refl; reader = refl; bytes = refl }
quiet-call t (Put key pieces given) f id e = record { key = λ old. refl; asks = λ old. refl; write = λ new old. refl; seen = λ shown old. refl; own = λ old. refl; wait = λ old. refl; reader = refl; bytes = refl }

-- and so does a revalidation that is refused with nothing stored
unconfirmed : {X : Type 0} (v w : Bool) (x old : X) → w ≡ false → cond (v && w) x old ≡ old
unconfirmed true w x old e = ap (λ t. cond t x old) e
unconfirmed false w x old e = refl

pub quiet-renewal : (t : MomentValue) (r : ℕ) (head : List ℕ) (given : Option GivenMeta) (f : TierFault) (id : ℕ) → (done_of f).stored ≡ false → IsOther id t (Revalidate r head given) (Err f)
quiet-renewal t r head given f id e = record {
  key = λ old. refl;
  asks = λ old. refl;
  write = λ new old. refl;
  seen = λ shown old. unconfirmed (r == id) (done_of f).stored None old e;
  own = λ old. unconfirmed (r == id) (done_of f).stored (record old { phase = revalidated }) old e;
  wait = λ old. unconfirmed (r == id) (done_of f).stored (record old { hold = no_lock }) old e;
  reader = refl;
  bytes = refl;
}
