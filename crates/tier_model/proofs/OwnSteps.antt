-- What an event makes of an open request is what its own calls say.
use Rattle.std.proofs.Common.{◌≡◌, ℕ, refl, ap, true, false}
use Rattle.std.specs.Prelude.{Bool, Option, Some, None}
use Rattle.cache_words.specs.Time.{MomentValue}
use Rattle.cache_lock.specs.Answers.{to_wait_for}
use Rattle.cache_lock.specs.State.{LockState}
use Rattle.cache_lock.specs.declared.status.LockStatus.{LockStatus}
use Rattle.tier_model.specs.declared.event.Answer.{Answer}
use Rattle.tier_model.specs.Shelf.{Look}
use Rattle.tier_model.specs.Standings.{Hold, hold_given, wait_polled}
use Rattle.tier_model.specs.Standings.{RequestStanding, Reads, reads_on}
use Rattle.tier_model.specs.State.{LockHold, nothing, permit, waits, Reader, closed, unread, spent, streaming, Request}
use Rattle.tier_model.specs.Answers.{key_for, asks_now, given_if, lock_given}
use Rattle.tier_model.specs.After.{held_of, looked, after_wait, read_on}
use Rattle.tier_model.specs.Past.{hold_in, reads_in, own_in, wait_in}
use Rattle.tier_model.proofs.CallLaws.{read_turn}

-- what is held of the lock is what was given
held_given : (asks : Bool) (core : Option ℕ) (locks : LockState) (old : LockHold) → hold_in (held_of (given_if asks core) core locks old) ≡ hold_given (given_if asks core) (hold_in old)
held_given false core locks old = refl
held_given true None locks old = refl
held_given true (Some n) locks old = refl

-- after a look-up
pub wait_look : (t : MomentValue) (q : Request) (locks : LockState) (l : Look) → wait_in (looked t q l locks) ≡ record (wait_in q) { hold = hold_given (lock_given t q l locks) (wait_in q).hold }
wait_look t q locks l = ap (λ (hold : Hold). record { hold = hold; waited = q.waited }) (held_given (asks_now t q l) (to_wait_for (key_for q) locks) locks q.held)

-- after a poll
pub own_wait : (t : MomentValue) (outcome : Option LockStatus) (held : LockHold) (q : Request) → own_in (after_wait t outcome held q) ≡ own_in q
own_wait t None (waits n first) q = refl
own_wait t None (permit n) q = refl
own_wait t None nothing q = refl
own_wait t (Some x) (waits n first) q = refl
own_wait t (Some x) (permit n) q = refl
own_wait t (Some x) nothing q = refl

pub wait_wait : (t : MomentValue) (outcome : Option LockStatus) (held : LockHold) (q : Request) → wait_in (after_wait t outcome held q) ≡ wait_polled t outcome (hold_in held) (wait_in q)
wait_wait t None (waits n first) q = refl
wait_wait t None (permit n) q = refl
wait_wait t None nothing q = refl
wait_wait t (Some x) (waits n first) q = refl
wait_wait t (Some x) (permit n) q = refl
wait_wait t (Some x) nothing q = refl

reads_after : (a : Answer) (r : Reader) → reads_in (read_on a r) ≡ reads_on (reads_in r)
reads_after a closed = refl
reads_after a (unread bytes) = refl
reads_after a spent = refl
reads_after a (streaming n place) = refl

pub own_read : (a : Answer) (q : Request) → own_in (read_turn a q) ≡ record (own_in q) { reads = reads_on (own_in q).reads }
own_read a q = ap (λ (x : RequestStanding). x) (by_reads (reads_after a q.reader))
  where
    by_reads : reads_in (read_on a q.reader) ≡ reads_on (reads_in q.reader) → own_in (read_turn a q) ≡ record (own_in q) { reads = reads_on (own_in q).reads }
    by_reads e = ap (λ (r : Reads). record (own_in q) { reads = r }) e
