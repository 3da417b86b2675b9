-- What a state is to what the promise says is now. Numbers correspond by place, not by value: in the changes a write or a permit has as its number how many
-- changes came before it, while the shelf and the lock count on from where the tier began, and a refused event may use up a number of theirs. So the
-- relation has, for each number of the shelf, the number that its write has in the changes, and for each number of the lock its permit: none for a
-- number that no write or permit got. No two have one. Writes in flight and bodies are compared by what is seen of them: number, key and meta; their
-- bytes, and whether more may come, by number. The lock is compared by what was changed in it: the last status of each permit's core, and each key's.
use Rattle.std.proofs.Common.{◌≡◌, ℕ, ◌≤◌, ◌<◌, true, false, [], length}
use Rattle.std.specs.Prelude.{Bool, List, Option, Some, None, map, filter, cond}
use Rattle.std.specs.List.{AllByRecursion}
use Rattle.std.specs.FinMap.{get}
use Rattle.cache_heads.specs.declared.meta.CacheMeta.{CacheMeta}
use Rattle.cache_changes.specs.Changes.{StoredKey, stored_key}
use Rattle.cache_changes.specs.Uses.{AreShardsOf}
use Rattle.cache_lock.specs.Changes.{Changes as LockChanges}
use Rattle.cache_lock.specs.Status.{is_waiting}
use Rattle.cache_lock.specs.Waits.{last_status, core_of}
use Rattle.cache_lock.specs.declared.status.LockStatus.{LockStatus}
use Rattle.cache_lock.specs.declared.status.LockStatus.TheVariants.{Waiting}
use Rattle.tier_model.specs.Keys.{Entry, alone}
use Rattle.tier_model.specs.Rows.{Numbered, Bodies}
use Rattle.tier_model.specs.Shelf.{InFlight, Shelf, flies_for, flying_at, readable}
use Rattle.tier_model.specs.State.{Settings, LockHold, nothing, permit, Reader, closed, unread, spent, streaming, Seen, State}
use Rattle.tier_model.specs.State as state
use Rattle.tier_promise.specs.Promise.{Write, Permit, Changes, Request, Now, Hold, no_lock, holds, waits, bytes_of, is_done, flying, body_of, rows, ended, waiting}
use Rattle.tier_model.proofs.RowSteps.{IsMade}
use Rattle.tier_model.proofs.BeganLaws.{began_at}

-- the numbers that writes have in the changes, by their numbers on the shelf
abbrev pub Numbers : Type 0
Numbers = ℕ → Option ℕ

-- what is seen of a write
pub record Told : Type 0 where
  pub number : Option ℕ
  pub key : StoredKey
  pub meta : CacheMeta

abbrev pub told_write : Write → Told
told_write w = record { number = Some w.number; key = stored_key w.entry; meta = w.meta }

abbrev pub told_flight : Numbers → InFlight → Told
told_flight numbers f = record { number = numbers f.number; key = f.key; meta = f.meta }

abbrev pub told_body : Numbers → StoredKey → Numbered → Told
told_body numbers k x = record { number = numbers x.number; key = k; meta = x.body.meta }

-- a write in flight has the bytes that came, and knows whether more may come
abbrev pub IsFlight : Numbers → (ℕ → List ℕ) → (ℕ → Bool) → InFlight → Type 0
IsFlight numbers bytes done f = (m : ℕ) × (numbers f.number ≡ Some m) × (f.bytes ≡ bytes m) × (f.ended ≡ done m)

-- a body of k is a write to which no more comes
abbrev pub BodyFits : Numbers → (ℕ → List ℕ) → (ℕ → Bool) → StoredKey → Option Numbered → Option Write → Type 0
BodyFits numbers bytes done k None None = Unit {0}
BodyFits numbers bytes done k (Some x) (Some w) = (told_body numbers k x ≡ told_write w) × (x.body.bytes ≡ bytes w.number) × (done w.number ≡ true)
BodyFits numbers bytes done k _ _ = ⊥

-- bodies and writes in flight, after so many numbers of the shelf, are those that the changes leave
pub record ShelfFits (numbers : Numbers) (held : Bodies) (fs : List InFlight) (next : ℕ) (c : Changes) : Type 0 where
  pub below : (n m : ℕ) → numbers n ≡ Some m → (n < next) × (m < length c)
  pub apart : (i j m : ℕ) → numbers i ≡ Some m → numbers j ≡ Some m → i ≡ j
  pub fresh : (m : ℕ) → length c ≤ m → (bytes_of m c ≡ []) × (is_done m c ≡ false)
  pub flights : (k : StoredKey) → map told_write (flying k c) ≡ map (told_flight numbers) (filter (flies_for k) fs)
  pub each : AllByRecursion (IsFlight numbers (λ m. bytes_of m c) (λ m. is_done m c)) fs
  pub bodies : (k : StoredKey) → BodyFits numbers (λ m. bytes_of m c) (λ m. is_done m c) k (get held k) (body_of k c)

-- ---- the lock

-- the permits of cores, by their numbers
abbrev pub Permits : Type 0
Permits = ℕ → Option Permit

-- how a permit with that status ended
abbrev pub end_of : LockStatus → Option LockStatus
end_of Waiting = None
end_of how = Some how

-- the permit of a key's core, if that waits
abbrev pub waiting_of : Permits → LockChanges → Option ℕ → Option Permit
waiting_of permits locks None = None
waiting_of permits locks (Some n) = cond (is_waiting (last_status n locks)) (permits n) None

-- the permits that were given before the next number of the lock ended as their cores did, and those wait whose cores do
pub record LockFits (permits : Permits) (locks : LockChanges) (next : ℕ) (c : Changes) : Type 0 where
  pub below : (n : ℕ) (p : Permit) → permits n ≡ Some p → (n < next) × (p.number < length c)
  pub apart : (i j : ℕ) (p q : Permit) → permits i ≡ Some p → permits j ≡ Some q → p.number ≡ q.number → i ≡ j
  pub fresh : (m : ℕ) → length c ≤ m → ended m c ≡ None
  pub ends : (n : ℕ) (p : Permit) → permits n ≡ Some p → ended p.number c ≡ end_of (last_status n locks)
  pub given : (n : ℕ) (p : Permit) → permits n ≡ Some p → began_at n locks ≡ Some p.given
  pub waits : (k : StoredKey) → waiting k c ≡ waiting_of permits locks (core_of k locks)

-- ---- requests

-- what a look-up found past its moment
abbrev pub SeenFits : Numbers → Option Seen → Option Seen → Type 0
SeenFits numbers None None = Unit {0}
SeenFits numbers (Some x) (Some y) = (numbers x.number ≡ Some y.number) × (x.meta ≡ y.meta)
SeenFits numbers _ _ = ⊥

-- the write of a request for that entry, which is in flight
abbrev pub WriteFits : Numbers → List InFlight → Entry → Option ℕ → Option Write → Type 0
WriteFits numbers fs e None None = Unit {0}
WriteFits numbers fs e (Some n) (Some w) = (numbers n ≡ Some w.number) × (w.entry ≡ e) × ((f : InFlight) × (flying_at n fs ≡ Some f) × (f.key ≡ stored_key e) × (f.meta ≡ w.meta))
WriteFits numbers fs e _ _ = ⊥

abbrev pub ReaderFits : Numbers → (ℕ → Option (List ℕ × Bool)) → (ℕ → List ℕ) → (ℕ → Bool) → Reader → Reader → Type 0
ReaderFits numbers there bytes done closed closed = Unit {0}
ReaderFits numbers there bytes done (unread a) (unread b) = a ≡ b
ReaderFits numbers there bytes done spent spent = Unit {0}
ReaderFits numbers there bytes done (streaming n place) (streaming m at) = (numbers n ≡ Some m) × (place ≡ at) × (there n ≡ Some (bytes m, done m)) × (at ≤ length (bytes m))
ReaderFits numbers there bytes done _ _ = ⊥

abbrev pub HoldFits : Permits → LockHold → Hold → Type 0
HoldFits permits nothing no_lock = Unit {0}
HoldFits permits (permit n) (holds p) = permits n ≡ Some p
HoldFits permits (state.waits n first) (waits p since) = (permits n ≡ Some p) × (first ≡ since)
HoldFits permits _ _ = ⊥

pub record RequestFits (settings : Settings) (numbers : Numbers) (permits : Permits) (shelf : Shelf) (c : Changes) (q : state.Request) (p : Request) : Type 0 where
  pub entry : q.entry ≡ alone p.entry
  pub asks : q.asks ≡ p.asks
  pub wait : q.wait ≡ settings.wait
  pub phase : q.phase ≡ p.phase
  pub waited : q.waited ≡ p.waited
  pub gave_read : q.gave_read ≡ p.gave_read
  pub hold : HoldFits permits q.held p.hold
  pub seen : SeenFits numbers q.seen p.seen
  pub write : WriteFits numbers shelf.flying p.entry q.write p.write
  pub reader : ReaderFits numbers (λ n. readable n shelf) (λ m. bytes_of m c) (λ m. is_done m c) q.reader p.reader

abbrev pub OpenFits : Settings → Numbers → Permits → Shelf → Changes → Option state.Request → Option Request → Type 0
OpenFits settings numbers permits shelf c None None = Unit {0}
OpenFits settings numbers permits shelf c (Some q) (Some p) = RequestFits settings numbers permits shelf c q p
OpenFits settings numbers permits shelf c _ _ = ⊥

-- ---- all of it

pub record NowFits (settings : Settings) (s : State) (locks : LockChanges) (now : Now) : Type 0 where
  pub numbers : Numbers
  pub permits : Permits
  pub wait : s.wait ≡ settings.wait
  pub some : 0 < settings.shards
  pub made : IsMade settings s.managed
  pub rows : AreShardsOf settings.shards s.managed.shards (rows now.changes)
  pub shelf : ShelfFits numbers s.shelf.bodies s.shelf.flying s.shelf.writes now.changes
  pub lock : LockFits permits locks s.lock.next now.changes
  pub requests : (id : ℕ) → OpenFits settings numbers permits s.shelf now.changes (get s.requests id) (now.request id)
