-- What a look-up that is answered leaves: the permit or the wait that it gives, and what it finds.
use Rattle.std.proofs.Common.{◌≡◌, ℕ, ◌≤◌, ◌<◌, refl, ap, sym, ◌∙◌, true, false, subst, cond, [], ◌∷◌, ◌++◌, length, arith}
use Rattle.std.specs.Prelude.{Bool, Option, Some, None, unwrap_or}
use Rattle.std.specs.FinMap.{get}
use Rattle.cache_words.specs.Time.{MomentValue}
use Rattle.cache_changes.specs.Changes.{StoredKey, stored_key, uses}
use Rattle.cache_changes.specs.Uses.{AreShardsOf}
use Rattle.cache_changes.proofs.ManyShards.{AreShardsOf-after}
use Rattle.cache_entries.specs.Rows.{weight_of}
use Rattle.cache_evict.specs.Managed.{Managed, use_first}
use Rattle.cache_lock.specs.Answers.{to_wait_for, lock_change}
use Rattle.cache_lock.specs.Changes.{Changes as LockChanges, lends}
use Rattle.cache_lock.specs.State.{LockState, named, after_all}
use Rattle.cache_lock.specs.Waits.{core_of}
use Rattle.tier_model.specs.declared.state.Body.{Body}
use Rattle.tier_model.specs.Keys.{Entry, alone}
use Rattle.tier_model.specs.Calls.{extended}
use Rattle.tier_model.specs.Histories.{Kept}
use Rattle.tier_model.specs.Rows.{weight_for}
use Rattle.tier_model.specs.Shelf.{Shelf}
use Rattle.tier_model.specs.State.{Settings, LockHold, nothing, State, shards_of}
use Rattle.tier_model.specs.Answers.{given_for, given_if, used}
use Rattle.tier_model.specs.After.{held_of}
use Rattle.tier_promise.specs.Promise.{Permit, Changes, Request, Now, Hold, holds, waits, gives, puts, bytes_of, is_done, ended, waiting, rows, asked, hold_given, told, permits_in}
use Rattle.tier_model.proofs.GripLaws.{next-kept}
use Rattle.tier_promise.proofs.NowFits.{Permits, LockFits, HoldFits, NowFits}
use Rattle.tier_promise.proofs.NowShelf.{shelf-gives}
use Rattle.tier_promise.proofs.NowLock.{lock-lent, with_permit, permit-more, permit-new, lock-gives}
use Rattle.tier_promise.proofs.NowQuiet.{IsLocked, open-quiet}
use Rattle.tier_promise.proofs.NowWaits.{WaitMatches, wait-matches}
use Rattle.tier_promise.proofs.NowOthers.{OtherFits}

-- what the lock is changed where it is asked
abbrev pub changes_at : Bool → StoredKey → Bool → MomentValue → LockState → LockChanges
changes_at b key stale t l = cond b (lock_change key stale t l (to_wait_for key l) ∷ []) []

-- what one holds then that held nothing
abbrev pub held_at : Bool → StoredKey → LockState → LockHold
held_at b key l = held_of (given_if b (to_wait_for key l)) (to_wait_for key l) l nothing

module _ (x : Settings) (s : State) (locks : LockChanges) (now : Now) (fits : NowFits x s locks now) (locked : IsLocked x.age s locks) (t : MomentValue) (id : ℕ) (r : Request) where
  abbrev c : Changes
  c = now.changes

  abbrev k : StoredKey
  k = stored_key r.entry

  abbrev new : Permit
  new = record { number = length c; key = k; given = t }

  -- what is told is what is given
  told_by : (o : Option ℕ) (v : Option Permit) → WaitMatches fits.permits o v → waiting k c ≡ v → given_for o ≡ told (asked true t r c)
  told_by None None h e = sym (ap (λ (y : Option Permit). told (hold_given y new)) e)
  told_by (Some n) (Some p) h e = sym (ap (λ (y : Option Permit). told (hold_given y new)) e)
  told_by (Some n) None h e = absurd h
  told_by None (Some p) h e = absurd h

  pub told-is : (b : Bool) → given_if b (to_wait_for k s.lock) ≡ told (asked b t r c)
  told-is false = refl
  told-is true = told_by (to_wait_for k s.lock) (waiting k c) (wait-matches x s locks now fits locked k) refl

  -- what comes of the lock: the permits then, and all requests but that one
  pub record Given (b stale : Bool) (m : Managed) (shelf : Shelf) (then : Changes) : Type 0 where
    pub permits : Permits
    pub more : (n : ℕ) (p : Permit) → fits.permits n ≡ Some p → permits n ≡ Some p
    pub hold : HoldFits permits (held_at b k s.lock) (asked b t r c)
    pub others : OtherFits x fits.numbers permits s now id m shelf (changes_at b k stale t s.lock ++ locks) (after_all (changes_at b k stale t s.lock) s.lock).next (extended then (permits_in (asked b t r c)))
    pub bytes : (n : ℕ) → bytes_of n (extended then (permits_in (asked b t r c))) ≡ bytes_of n then
    pub done : (n : ℕ) → is_done n (extended then (permits_in (asked b t r c))) ≡ is_done n then

  module _ (stale : Bool) (m : Managed) (shelf : Shelf) (then : Changes) (longer : length c ≤ length then) (ends : (n : ℕ) → ended n then ≡ ended n c)
      (f : OtherFits x fits.numbers fits.permits s now id m shelf locks s.lock.next then) where
    known : (j : StoredKey) (n : ℕ) → core_of j locks ≡ Some n → n < s.lock.next
    known = locked.granted.grants.given

    not_ended : ended new.number then ≡ None
    not_ended = ends (length c) ∙ fits.lock.fresh (length c) (let n : ℕ = length c in omega arith)

    other_permit : (i : ℕ) (q : Permit) → fits.permits i ≡ Some q → q.number ≡ new.number → ⊥
    other_permit i q h e = let b = (fits.lock.below i q h).1 in absurd (omega (arith, b, e))

    abbrev GivenBy : Option ℕ → Hold → Type 0
    GivenBy o h = (permits : Permits) × ((n : ℕ) (p : Permit) → fits.permits n ≡ Some p → permits n ≡ Some p) × HoldFits permits (held_of (given_for o) o s.lock nothing) h
        × OtherFits x fits.numbers permits s now id m shelf (lock_change k stale t s.lock o ∷ locks) (after_all (lock_change k stale t s.lock o ∷ []) s.lock).next (extended then (permits_in h))
        × ((n : ℕ) → bytes_of n (extended then (permits_in h)) ≡ bytes_of n then) × ((n : ℕ) → is_done n (extended then (permits_in h)) ≡ is_done n then)

    permit_given : GivenBy None (holds new)
    permit_given =
        let into : Permits = with_permit s.lock.next new fits.permits in
        let more = permit-more fits.permits locks s.lock.next then f.lock new stale (omega (arith, longer)) not_ended other_permit known in (
          into,
          more,
          permit-new fits.permits locks s.lock.next then f.lock new stale (omega (arith, longer)) not_ended other_permit known,
          record {
            made = f.made;
            order = f.order;
            stored = shelf-gives fits.numbers shelf.bodies shelf.flying shelf.writes then f.stored new;
            lock = lock-gives fits.permits locks s.lock.next then f.lock new stale (omega (arith, longer)) not_ended other_permit known;
            others = λ j apart. open-quiet x fits.numbers fits.permits into shelf then (gives new ∷ then) (λ n. refl) (λ n. refl) more (get s.requests j) (now.request j) (f.others j apart);
          },
          λ n. refl,
          λ n. refl,
        )

    wait_given : (n : ℕ) (p : Permit) → fits.permits n ≡ Some p → GivenBy (Some n) (waits p None)
    wait_given n p h = (
      fits.permits,
      λ j q e. e,
      (h, refl),
      record {
        made = f.made;
        order = f.order;
        stored = f.stored;
        lock = subst (λ (y : ℕ). LockFits fits.permits (lends n ∷ locks) y then) (sym (next-kept n named (get s.lock.cores n) s.lock)) (lock-lent fits.permits locks s.lock.next then f.lock n);
        others = f.others;
      },
      λ j. refl,
      λ j. refl,
    )

    given_by : (o : Option ℕ) (v : Option Permit) → WaitMatches fits.permits o v → waiting k c ≡ v → GivenBy o (asked true t r c)
    given_by None None h e = subst (λ (y : Option Permit). GivenBy None (hold_given y new)) (sym e) permit_given
    given_by (Some n) (Some p) h e = subst (λ (y : Option Permit). GivenBy (Some n) (hold_given y new)) (sym e) (wait_given n p h)
    given_by (Some n) None h e = absurd h
    given_by None (Some p) h e = absurd h

    pub given-fits : (b : Bool) → Given b stale m shelf then
    given-fits false = record { permits = fits.permits; more = λ n p h. h; hold = tt; others = f; bytes = λ n. refl; done = λ n. refl }
    given-fits true =
        let y = given_by (to_wait_for k s.lock) (waiting k c) (wait-matches x s locks now fits locked k) refl in
        record { permits = y.0; more = y.1; hold = y.2; others = y.3; bytes = y.4; done = y.5 }

-- a use of an entry: it is first in its shard
pub rows-used : (x : Settings) (pos : 0 < x.shards) (s : State) (same : shards_of s ≡ x.shards) (e : Entry) (b : Body) (c : Changes) → AreShardsOf x.shards s.managed.shards (rows c)
    → AreShardsOf x.shards (used s (alone e) b).shards (rows (puts (alone e) (unwrap_or (weight_of (alone e) (rows c)) (weight_for b)) ∷ c))
rows-used x pos s same e b c a =
    subst (λ (i : ℕ). AreShardsOf x.shards (use_first i (alone e) (weight_for b) s.managed).shards (rows (puts (alone e) (unwrap_or (weight_of (alone e) (rows c)) (weight_for b)) ∷ c))) (sym same)
    (let y = AreShardsOf-after {M = Kept} x.shards (uses (alone e) (weight_for b)) (alone e) s.managed.shards (rows c) pos refl a in record { count = y.count; each = y.each })
