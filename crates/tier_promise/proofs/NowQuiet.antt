-- Events that leave what is stored as it is: requests go on, and one of them and the lock turn.
use Rattle.std.proofs.Common.{◌≡◌, ℕ, ◌≤◌, refl, ap, sym, ◌∙◌, true, false, subst, cond, [], ◌∷◌, ◌++◌, ◌==◌, length}
use Rattle.std.specs.Prelude.{◌&&◌, Bool, List, Option, Some, None, option_map, is_some, not}
use Rattle.std.specs.FinMap.{get}
use Rattle.std.specs.Option.{option_or}
use Rattle.cache_words.specs.Time.{MomentValue, DurationValue}
use Rattle.cache_lock.specs.Changes.{Changes as LockChanges, stores}
use Rattle.cache_lock.specs.Answers.{poll_changes}
use Rattle.cache_lock.specs.State.{LockState, after_all}
use Rattle.cache_lock.specs.Status.{is_waiting}
use Rattle.cache_lock.specs.declared.fills.UnusableFill.{UnusableFill}
use Rattle.cache_lock.specs.declared.fills.WaitOutcome.TheVariants.{Released, AgeTimeout as Aged, Abandoned}
use Rattle.cache_lock.specs.declared.status.LockStatus.{LockStatus}
use Rattle.cache_lock.specs.declared.status.LockStatus.TheVariants.{Waiting, AgeTimeout}
use Rattle.tier_model.specs.declared.event.Action.{Action}
use Rattle.tier_model.specs.Calls.{Outcome}
use Rattle.tier_model.specs.Shelf.{Shelf}
use Rattle.tier_model.specs.State.{Settings, LockHold, nothing, permit, State}
use Rattle.tier_model.specs.State as state
use Rattle.tier_model.specs.Polls.{told_in_time}
use Rattle.tier_model.specs.Answers.{ended_by}
use Rattle.tier_model.specs.After.{with_counts, with_request, lock_changes_in, after_outcome}
use Rattle.tier_promise.specs.Promise.{Permit, Changes, Request, EventRow, Now, bytes_of, is_done, rows, ran_out, came}
use Rattle.tier_model.proofs.CallLaws.{Inside, call_at, at-insert}
use Rattle.tier_model.proofs.BeganLaws.{began_at, ages}
use Rattle.tier_model.proofs.EffectLaws.{grip_at, hold_at}
use Rattle.tier_model.proofs.GrantSteps.{Granted}
use Rattle.cache_changes.specs.Uses.{AreShardsOf}
use Rattle.tier_promise.proofs.NowRows.{Answered}
use Rattle.tier_promise.proofs.NowFits.{Numbers, Permits, end_of, ShelfFits, LockFits, RequestFits, OpenFits, NowFits}
use Rattle.tier_promise.proofs.NowRequests.{open-carried}
use Rattle.tier_promise.proofs.NowSteps.{no_longer, turned-fits, counted-fits}

-- what a lock is in itself, after those changes: its cores are held by the requests, and each that is there has that age, from when its permit was given
pub record IsLocked (age : DurationValue) (s : State) (locks : LockChanges) : Type 0 where
  pub granted : Granted s.lock (grip_at s) (hold_at s) locks
  pub began : (n : ℕ) (x : MomentValue × DurationValue) → option_map ages (get s.lock.cores n) ≡ Some x → (began_at n locks ≡ Some x.0) × (x.1 ≡ age)

-- a request goes on where nothing that is stored changes
pub open-quiet : (x : Settings) (numbers : Numbers) (permits then : Permits) (shelf : Shelf) (c next : Changes) → ((m : ℕ) → bytes_of m next ≡ bytes_of m c) → ((m : ℕ) → is_done m next ≡ is_done m c)
    → ((n : ℕ) (p : Permit) → permits n ≡ Some p → then n ≡ Some p) → (o : Option state.Request) (v : Option Request) → OpenFits x numbers permits shelf c o v → OpenFits x numbers then shelf next o v
open-quiet x numbers permits then shelf c next bytes done more o v f = open-carried numbers numbers shelf shelf c next x permits then o v
    (λ q is. record {
      named = λ n m h. h;
      flights = λ n g e at. (g, at, refl, refl);
      reads = λ n place m e named h. (
        h ∙ ap (λ (b : List ℕ). let read : List ℕ × Bool = (b, is_done m c) in Some read) (sym (bytes m)) ∙ ap (λ (d : Bool). let read : List ℕ × Bool = (bytes_of m next, d) in Some read) (sym (done m)),
        subst (λ (b : List ℕ). length (bytes_of m c) ≤ length b) (sym (bytes m)) (no_longer (length (bytes_of m c))),
      );
    })
    more f

pub request-quiet : (x : Settings) (numbers : Numbers) (permits : Permits) (shelf : Shelf) (c next : Changes) → ((m : ℕ) → bytes_of m next ≡ bytes_of m c) → ((m : ℕ) → is_done m next ≡ is_done m c)
    → (q : state.Request) (r : Request) → RequestFits x numbers permits shelf c q r → RequestFits x numbers permits shelf next q r
request-quiet x numbers permits shelf c next bytes done q r f = open-quiet x numbers permits permits shelf c next bytes done (λ j p h. h) (Some q) (Some r) f

-- what is said of an event of an open request that may change the lock
abbrev pub ComesLocked : Settings → ℕ → State → LockChanges → Now → MomentValue → Action → Inside → Outcome → ℕ → ℕ → EventRow → Type 0
ComesLocked x used s locks now t action i o id n row =
    Answered x used o row now.changes
    × NowFits x (with_counts n (after_all (lock_changes_in s t action o i.asked) s.lock) (after_outcome s t action (call_at t action i o) o)) (lock_changes_in s t action o i.asked ++ locks)
    (cond (ran_out o) now (came id row now).now)

-- ---- how a wait ends

still_ended : (aged : Bool) (x : Option UnusableFill) (over : Bool) → ended_by (cond aged (Some Aged) (option_map Abandoned x)) Waiting over ≡ told_in_time aged over
still_ended true x over = refl
still_ended false None over = refl
still_ended false (Some y) over = refl

pub wait-told : (st : LockStatus) (aged over : Bool) (x : Option UnusableFill)
    → ended_by (cond (is_waiting st) (cond aged (Some Aged) (option_map Abandoned x)) (Some Released)) st over ≡ option_or (end_of st) (told_in_time aged over)
wait-told Waiting aged over x = still_ended aged x over
wait-told _ aged over x = refl

-- what is stored of it
pub wait-stored : (n : ℕ) (st : LockStatus) (aged : Bool) (x : Option UnusableFill)
    → poll_changes n (cond (is_waiting st) (cond aged (Some Aged) (option_map Abandoned x)) (Some Released)) ≡ cond (aged && not (is_some (end_of st))) (stores n AgeTimeout ∷ []) []
wait-stored n Waiting true x = refl
wait-stored n Waiting false None = refl
wait-stored n Waiting false (Some y) = refl
wait-stored n _ true x = refl
wait-stored n _ false x = refl

-- a request turns and the lock changes, where nothing that is stored changes
module _ (x : Settings) (s : State) (locks : LockChanges) (now : Now) (fits : NowFits x s locks now) where
  pub turn-fits : (id : ℕ) (q : state.Request) (r : Request) (permits : Permits) (lock : LockState) (more : LockChanges) (next : Changes) (n : ℕ) → n ≡ s.shelf.writes
      → ((m : ℕ) → bytes_of m next ≡ bytes_of m now.changes) → ((m : ℕ) → is_done m next ≡ is_done m now.changes) → ((j : ℕ) (p : Permit) → fits.permits j ≡ Some p → permits j ≡ Some p)
      → AreShardsOf x.shards s.managed.shards (rows next) → ShelfFits fits.numbers s.shelf.bodies s.shelf.flying s.shelf.writes next → LockFits permits more lock.next next
      → RequestFits x fits.numbers permits s.shelf next q r
      → NowFits x (with_counts n lock (with_request id q s)) more (record { changes = next; request = λ j. cond (j == id) (Some r) (now.request j) })
  turn-fits id q r permits lock more next n same bytes done permitted order shelf locked new =
      counted-fits x (record (with_request id q s) { lock = lock }) more (record { changes = next; request = λ j. cond (j == id) (Some r) (now.request j) }) n lock same refl (record {
        numbers = fits.numbers;
        permits = permits;
        wait = fits.wait;
        some = fits.some;
        made = fits.made;
        rows = order;
        shelf = shelf;
        lock = locked;
        requests = turned-fits x fits.numbers permits s.shelf next id (get s.requests) (get (with_request id q s).requests) now.request (Some q) (Some r) (at-insert s.requests id q) new
            (λ j apart. open-quiet x fits.numbers fits.permits permits s.shelf now.changes next bytes done permitted (get s.requests j) (now.request j) (fits.requests j));
      })
