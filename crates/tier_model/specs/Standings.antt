-- What a request's own calls say of it since it was last opened: of its wait, and of its phase and its reader.
use Rattle.std.specs.Prelude.{ℕ, ◌==◌, Bool, false, ◌&&◌, [], ◌∷◌, if◌then◌else◌, Option, Some, None, unwrap_or, Ok}
use Rattle.cache_words.specs.Time.{MomentValue, DurationValue, greatest, elapsed, sum_of}
use Rattle.cache_lock.specs.declared.status.LockStatus.{LockStatus}
use Rattle.tier_model.specs.declared.event.Action.{Action}
use Rattle.tier_model.specs.declared.event.Action.TheVariants.{Open, LookUp, Poll, Begin, Revalidate, Read}
use Rattle.tier_model.specs.declared.event.Answer.TheVariants as answer
use Rattle.tier_model.specs.declared.event.LockGiven.{LockGiven}
use Rattle.tier_model.specs.declared.event.LockGiven.TheVariants as lock
use Rattle.tier_model.specs.Calls.{History, Outcome, is_confirmation}
use Rattle.tier_model.specs.Locks.{is_wait}
use Rattle.tier_model.specs.State.{Phase, cache_key, hit, stale, miss, begun, disabled, revalidated}

-- ---- its wait

-- what it holds of the lock
pub data Hold : Type 0 where
  no_lock : Hold
  a_permit : Hold
  -- a wait, with the moment of its first poll
  a_wait : Option MomentValue → Hold

-- what it holds, and how long all its waits that ended took, if some did
pub record Wait : Type 0 where
  pub hold : Hold
  pub waited : Option DurationValue

abbrev pub no_wait : Wait
no_wait = record { hold = no_lock; waited = None }

abbrev pub hold_given : LockGiven → Hold → Hold
hold_given lock.None old = old
hold_given lock.Write old = a_permit
hold_given lock.Read old = a_wait None

-- a further time after those before, if there were some; the sum stops at the greatest
abbrev pub in_all : Option DurationValue → DurationValue → Option DurationValue
in_all None further = Some further
in_all (Some before) further = Some (unwrap_or (sum_of before further) greatest)

-- since the first poll
abbrev pub time_waited : Option MomentValue → MomentValue → DurationValue
time_waited first t = elapsed (unwrap_or first t) t

abbrev pub wait_polled : MomentValue → Option LockStatus → Hold → Wait → Wait
wait_polled t None (a_wait first) w = record w { hold = a_wait (Some (unwrap_or first t)) }
wait_polled t (Some status) (a_wait first) w = record { hold = no_lock; waited = in_all w.waited (time_waited first t) }
wait_polled t told _ w = w

abbrev pub wait_after : ℕ → MomentValue → Action → Outcome → Wait → Wait
wait_after id t (Open request key asks) (Ok answer.Opened) old = if request == id then no_wait else old
wait_after id t (LookUp request) (Ok (answer.Found fresh complete given)) old = if request == id then record old { hold = hold_given given old.hold } else old
wait_after id t (LookUp request) (Ok (answer.Absent given)) old = if request == id then record old { hold = hold_given given old.hold } else old
wait_after id t (Poll request) (Ok (answer.Waited told)) old = if request == id then wait_polled t told old.hold old else old
wait_after id t (Begin request head given) (Ok answer) old = if request == id then record old { hold = no_lock } else old
wait_after id t (Revalidate request head given) outcome old = if (request == id) && is_confirmation outcome then record old { hold = no_lock } else old
wait_after id t _ _ old = old

abbrev pub wait_of : ℕ → History → Wait
wait_of id [] = no_wait
wait_of id (c ∷ h) = wait_after id c.event.moment c.event.action c.outcome (wait_of id h)

-- ---- its phase and its reader

-- what it has to read
pub data Reads : Type 0 where
  no_reader : Reads
  -- a whole body, and none of it is read
  all_of_body : Reads
  -- a whole body, and all of it is read
  read_body : Reads
  -- a write as it comes
  as_it_comes : Reads

-- its phase; whether its last look-up gave it a wait; what it has to read
pub record RequestStanding : Type 0 where
  pub phase : Phase
  pub gave_read : Bool
  pub reads : Reads

-- just opened
abbrev pub own_opened : RequestStanding
own_opened = record { phase = cache_key; gave_read = false; reads = no_reader }

-- nothing was found: the phase stays with a wait
abbrev pub phase_absent : LockGiven → Phase → Phase
phase_absent lock.Read old = old
phase_absent _ old = miss

abbrev pub phase_found : Bool → Phase
phase_found fresh = if fresh then hit else stale

abbrev pub reads_found : Bool → Reads
reads_found complete = if complete then all_of_body else as_it_comes

abbrev pub own_looked : Phase → Reads → LockGiven → RequestStanding
own_looked phase reads given = record { phase = phase; gave_read = is_wait given; reads = reads }

abbrev pub own_begun : Phase → Reads → RequestStanding → RequestStanding
own_begun phase reads o = record o { phase = phase; reads = reads }

abbrev pub reads_on : Reads → Reads
reads_on all_of_body = read_body
reads_on r = r

abbrev pub own_after : ℕ → Action → Outcome → RequestStanding → RequestStanding
own_after id (Open request key asks) (Ok answer.Opened) old = if request == id then own_opened else old
own_after id (LookUp request) (Ok (answer.Found fresh complete given)) old = if request == id then own_looked (phase_found fresh) (reads_found complete) given else old
own_after id (LookUp request) (Ok (answer.Absent given)) old = if request == id then own_looked (phase_absent given old.phase) no_reader given else old
own_after id (Begin request head given) (Ok answer.Begun) old = if request == id then own_begun begun as_it_comes old else old
own_after id (Begin request head given) (Ok (answer.Uncacheable reason)) old = if request == id then own_begun disabled no_reader old else old
own_after id (Revalidate request head given) outcome old = if (request == id) && is_confirmation outcome then record old { phase = revalidated } else old
own_after id (Read request) (Ok answer) old = if request == id then record old { reads = reads_on old.reads } else old
own_after id _ _ old = old

-- what the calls of an open request say of it
abbrev pub own_of : ℕ → History → RequestStanding
own_of id [] = own_opened
own_of id (c ∷ h) = own_after id c.event.action c.outcome (own_of id h)
