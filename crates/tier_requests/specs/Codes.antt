-- The codes of a tier's state, by which a proof distinguishes two states: a record is its fields, one after another.
use Rattle.std.specs.Prelude.{◌≡◌, ℕ, ℤ, Bool, true, false, List, Option, Some, None, ◌⊎◌, refl}
use Rattle.std.proofs.Common.{inl, inr}
use Rattle.std.specs.Coded.{Coded, code_by, coded×, coded⊎, coded_ℕ, coded_ℤ, coded_bool, coded_list, coded_option}
use Rattle.std.specs.FinMap as finite
use Rattle.std.specs.Ordering.{nat_cmp}
use Rattle.cache_words.specs.Time.{DurationValue, MomentValue}
use Rattle.cache_entries.specs.declared.rows.Tracked.{Tracked}
use Rattle.cache_entries.specs.contracts.rows.Tracked.{the_row as tracked_row}
use Rattle.cache_entries.specs.declared.entry.CacheEntryKey.{CacheEntryKey}
use Rattle.cache_entries.specs.contracts.entry.CacheEntryKey.{the_row as entry_row}
use Rattle.cache_heads.specs.declared.meta.CacheMeta.{CacheMeta}
use Rattle.cache_heads.specs.contracts.meta.CacheMeta.{the_row as meta_row}
use Rattle.cache_evict.specs.Managed.{Managed}
use Rattle.cache_lock.specs.State.{LockState}
use Rattle.cache_lock.specs.StateCode as lock
use Rattle.tier_model.specs.contracts.state.Body.{the_row as body_row}
use Rattle.tier_model.specs.declared.state.Body.{Body}
use Rattle.tier_model.specs.Rows.{Numbered, Bodies}
use Rattle.tier_model.specs.Shelf.{InFlight, Readers, Shelf}
use Rattle.tier_model.specs.State.{Phase, cache_key, hit, stale, miss, begun, disabled, revalidated, LockHold, nothing, permit, waits, Reader, closed, unread, spent, streaming, Seen, Request, State}

abbrev pub span_code : Coded DurationValue
span_code = code_by (ℕ × ℕ) (coded× coded_ℕ coded_ℕ) (λ s. (s.seconds, s.nanoseconds)) (λ p. record { seconds = p.0; nanoseconds = p.1 }) (λ _. refl)

abbrev pub moment_code : Coded MomentValue
moment_code = code_by (ℤ × ℕ) (coded× coded_ℤ coded_ℕ) (λ t. (t.seconds, t.nanoseconds)) (λ p. record { seconds = p.0; nanoseconds = p.1 }) (λ _. refl)

-- ---- requests

abbrev pub number_of_phase : Phase → Bool × (Bool × Bool)
number_of_phase cache_key = (true, (true, true))
number_of_phase hit = (true, (true, false))
number_of_phase stale = (true, (false, true))
number_of_phase miss = (true, (false, false))
number_of_phase begun = (false, (true, true))
number_of_phase disabled = (false, (true, false))
number_of_phase revalidated = (false, (false, true))

abbrev pub phase_by : Bool → Bool → Bool → Phase
phase_by true true true = cache_key
phase_by true true false = hit
phase_by true false true = stale
phase_by true false false = miss
phase_by false true true = begun
phase_by false true false = disabled
phase_by false false _ = revalidated

pub phase_back : (p : Phase) → phase_by (number_of_phase p).0 (number_of_phase p).1.0 (number_of_phase p).1.1 ≡ p
phase_back cache_key = refl
phase_back hit = refl
phase_back stale = refl
phase_back miss = refl
phase_back begun = refl
phase_back disabled = refl
phase_back revalidated = refl

abbrev pub phase_code : Coded Phase
phase_code = code_by (Bool × (Bool × Bool)) (coded× coded_bool (coded× coded_bool coded_bool)) number_of_phase (λ p. phase_by p.0 p.1.0 p.1.1) phase_back

abbrev pub LockHoldParts : Type 0
LockHoldParts = ℕ ⊎ (ℕ × Option MomentValue)

abbrev pub parts_of_held : LockHold → Option LockHoldParts
parts_of_held nothing = None
parts_of_held (permit n) = Some (inl n)
parts_of_held (waits n first) = Some (inr (n, first))

abbrev pub held_by : Option LockHoldParts → LockHold
held_by None = nothing
held_by (Some (inl n)) = permit n
held_by (Some (inr p)) = waits p.0 p.1

pub held_back : (h : LockHold) → held_by (parts_of_held h) ≡ h
held_back nothing = refl
held_back (permit n) = refl
held_back (waits n first) = refl

abbrev pub held_code : Coded LockHold
held_code = code_by (Option LockHoldParts) (coded_option (coded⊎ coded_ℕ (coded× coded_ℕ (coded_option moment_code)))) parts_of_held held_by held_back

abbrev pub ReaderParts : Type 0
ReaderParts = Option (List ℕ) ⊎ Option (ℕ × ℕ)

abbrev pub parts_of_reader : Reader → ReaderParts
parts_of_reader closed = inl None
parts_of_reader (unread bytes) = inl (Some bytes)
parts_of_reader spent = inr None
parts_of_reader (streaming n place) = inr (Some (n, place))

abbrev pub reader_by : ReaderParts → Reader
reader_by (inl None) = closed
reader_by (inl (Some bytes)) = unread bytes
reader_by (inr None) = spent
reader_by (inr (Some p)) = streaming p.0 p.1

pub reader_back : (r : Reader) → reader_by (parts_of_reader r) ≡ r
reader_back closed = refl
reader_back (unread bytes) = refl
reader_back spent = refl
reader_back (streaming n place) = refl

abbrev pub reader_code : Coded Reader
reader_code = code_by ReaderParts (coded⊎ (coded_option (coded_list coded_ℕ)) (coded_option (coded× coded_ℕ coded_ℕ))) parts_of_reader reader_by reader_back

abbrev pub seen_code : Coded Seen
seen_code = code_by (ℕ × CacheMeta) (coded× coded_ℕ meta_row.coded) (λ x. (x.number, x.meta)) (λ p. record { number = p.0; meta = p.1 }) (λ _. refl)

-- what a request has of its own, and how it stands
abbrev pub Opened : Type 0
Opened = CacheEntryKey × (Bool × (Option DurationValue × (Phase × (LockHold × Option DurationValue))))

abbrev pub opened_code : Coded Opened
opened_code = coded× entry_row.coded (coded× coded_bool (coded× (coded_option span_code) (coded× phase_code (coded× held_code (coded_option span_code)))))

-- what its look-ups and its write gave it
abbrev pub LookUpParts : Type 0
LookUpParts = Bool × (Option Seen × (Option ℕ × Reader))

abbrev pub given_code : Coded LookUpParts
given_code = coded× coded_bool (coded× (coded_option seen_code) (coded× (coded_option coded_ℕ) reader_code))

abbrev pub request_code : Coded Request
request_code =
    code_by (Opened × LookUpParts) (coded× opened_code given_code)
    (λ q. ((q.entry, (q.asks, (q.wait, (q.phase, (q.held, q.waited))))), (q.gave_read, (q.seen, (q.write, q.reader)))))
    (λ p. record { entry = p.0.0; asks = p.0.1.0; wait = p.0.1.1.0; phase = p.0.1.1.1.0; held = p.0.1.1.1.1.0; waited = p.0.1.1.1.1.1; gave_read = p.1.0; seen = p.1.1.0; write = p.1.1.1.0; reader = p.1.1.1.1 }) (λ _. refl)

abbrev pub requests_code : Coded (finite.FinMap nat_cmp Request)
requests_code = finite.code coded_ℕ request_code

-- ---- the whole state

abbrev pub managed_code : Coded Managed
managed_code =
    code_by (List (List Tracked) × (ℕ × (Option ℕ × (ℕ × ℕ)))) (coded× (coded_list (coded_list tracked_row.coded)) (coded× coded_ℕ (coded× (coded_option coded_ℕ) (coded× coded_ℕ coded_ℕ))))
    (λ m. (m.shards, (m.limit, (m.watermark, (m.evicted_size, m.evicted_items)))))
    (λ p. record { shards = p.0; limit = p.1.0; watermark = p.1.1.0; evicted_size = p.1.1.1.0; evicted_items = p.1.1.1.1 }) (λ _. refl)

abbrev pub flight_code : Coded InFlight
flight_code =
    code_by (ℕ × (List ℕ × (CacheMeta × (List ℕ × (Bool × Bool))))) (coded× coded_ℕ (coded× (coded_list coded_ℕ) (coded× meta_row.coded (coded× (coded_list coded_ℕ) (coded× coded_bool coded_bool)))))
    (λ f. (f.number, (f.key, (f.meta, (f.bytes, (f.ended, f.removed))))))
    (λ p. record { number = p.0; key = p.1.0; meta = p.1.1.0; bytes = p.1.1.1.0; ended = p.1.1.1.1.0; removed = p.1.1.1.1.1 }) (λ _. refl)

abbrev pub readers_code : Coded Readers
readers_code =
    code_by (ℕ × (Option (List ℕ) × Bool)) (coded× coded_ℕ (coded× (coded_option (coded_list coded_ℕ)) coded_bool)) (λ r. (r.count, (r.left, r.whole)))
    (λ p. record { count = p.0; left = p.1.0; whole = p.1.1 }) (λ _. refl)

abbrev pub numbered_code : Coded Numbered
numbered_code = code_by (ℕ × Body) (coded× coded_ℕ body_row.coded) (λ x. (x.number, x.body)) (λ p. record { number = p.0; body = p.1 }) (λ _. refl)

abbrev pub shelf_code : Coded Shelf
shelf_code =
    code_by (Bodies × (List InFlight × (finite.FinMap nat_cmp Readers × ℕ)))
    (coded× (finite.code (coded_list coded_ℕ) numbered_code) (coded× (coded_list flight_code) (coded× (finite.code coded_ℕ readers_code) coded_ℕ)))
    (λ s. (s.bodies, (s.flying, (s.readers, s.writes)))) (λ p. record { bodies = p.0; flying = p.1.0; readers = p.1.1.0; writes = p.1.1.1 }) (λ _. refl)

abbrev pub state_code : Coded State
state_code =
    code_by (Managed × (Option DurationValue × (Shelf × (LockState × (finite.FinMap nat_cmp Request × (ℕ × ℕ))))))
    (coded× managed_code (coded× (coded_option span_code) (coded× shelf_code (coded× lock.state_code (coded× requests_code (coded× coded_ℕ coded_ℕ))))))
    (λ s. (s.managed, (s.wait, (s.shelf, (s.lock, (s.requests, (s.found, s.absent)))))))
    (λ p. record { managed = p.0; wait = p.1.0; shelf = p.1.1.0; lock = p.1.1.1.0; requests = p.1.1.1.1.0; found = p.1.1.1.1.1.0; absent = p.1.1.1.1.1.1 }) (λ _. refl)
