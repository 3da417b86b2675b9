-- What is found with its head, and what is found fresh and whole in one call.
use Rattle.std.specs.Prelude.{◌≡◌, ◌⊎◌, ℕ, Bool, true, false, List, [], ◌∷◌, Option, Some, None, Result, Ok, Err}
use Rattle.rand_core.specs.Stream.{Stream}
use Rattle.cache_words.specs.Time.{MomentValue}
use Rattle.cache_words.specs.Key.{CacheKeyValue}
use Rattle.cache_heads.specs.declared.meta.CacheMeta.{CacheMeta}
use Rattle.cache_entries.specs.Rows.{weight_of}
use Rattle.cache_entries.specs.declared.entry.CacheEntryKey.{CacheEntryKey}
use Rattle.cache_entries.specs.declared.rows.Tracked.{Tracked}
use Rattle.cache_changes.specs.Changes.{StoredKey}
use Rattle.cache_evict.specs.Managed.{Managed, rows_of, use_first}
use Rattle.cache_evict.specs.declared.fault.EvictFault.{EvictFault}
use Rattle.cache_evict.specs.Faults.{IsPutRefused}
use Rattle.tier_model.specs.declared.event.Action.{Action}
use Rattle.tier_model.specs.declared.event.Action.TheVariants.{Open, LookUp, Read, Drop}
use Rattle.tier_model.specs.declared.event.Answer.{Answer}
use Rattle.tier_model.specs.declared.event.Answer.TheVariants.{Opened, Found, Bytes, Dropped}
use Rattle.tier_model.specs.declared.event.Event.{Event}
use Rattle.tier_model.specs.declared.event.LockGiven.TheVariants as given
use Rattle.tier_model.specs.declared.event.TierFault.{TierFault}
use Rattle.tier_model.specs.declared.event.TierFault.TheVariants as fault
use Rattle.tier_model.specs.declared.state.Body.{Body}
use Rattle.tier_model.specs.Calls.{Call, History, Outcome, nothing_done}
use Rattle.tier_model.specs.Histories.{Opening}
use Rattle.tier_model.specs.Rows.{size_of}
use Rattle.tier_model.specs.State.{Settings, State}
use Rattle.tier_model.specs.After.{counted}
use Rattle.tier_model.specs.Past.{HasPast}
use Rattle.tier_promise.specs.Promise.{Whether, Promise, now_of, head_found}
pub use Rattle.tier_promise.specs.Hits.{hit_at, hit_in}
use Rattle.tier_requests.specs.Faults.{out_of_memory, fault_for}
use Rattle.tier_single.specs.declared.found.FoundMeta.{FoundMeta}
use Rattle.tier_single.specs.declared.found.Hit.{Hit}
use Rattle.tier_single.specs.Takes.{Takes}

-- ---- finds

abbrev pub meta_of : FoundMeta → CacheMeta
meta_of m = record { internal = m.internal; header = m.head; external = m.external }

abbrev pub answer_found : Result (Answer × Option FoundMeta) TierFault → Outcome
answer_found (Ok r) = Ok r.0
answer_found (Err f) = Err f

-- by whatever past the tier had, that is the head of what a look-up of the request finds
abbrev pub FindsHead : State → ℕ → Option CacheMeta → Type 0
FindsHead s id m = (start : Opening) (past : History) → HasPast start s past → m ≡ head_found id (now_of start.settings start.loaded past)

-- ---- hits

abbrev pub body_in : Hit → Body
body_in h = record { bytes = h.body; meta = meta_of h.meta }

abbrev pub weighed_hit : Hit × ℕ → Body × ℕ
weighed_hit h = (body_in h.0, h.1)

abbrev pub weighed_body : Body → Body × ℕ
weighed_body b = (b, size_of b)

-- by whatever past the tier had, that is the key's body where it is whole and fresh; where that is absent, stale or in flight there is none
abbrev pub IsHitOf : State → MomentValue → StoredKey → Option Body → Type 0
IsHitOf s t k b = (start : Opening) (past : History) → HasPast start s past → b ≡ hit_in t k (now_of start.settings start.loaded past).changes

abbrev pub at_moment : MomentValue → Action → Event
at_moment t action = record { moment = t; action = action }

-- an opening is refused for these
abbrev pub is_of_open : TierFault → Bool
is_of_open fault.IdInUse = true
is_of_open (fault.Memory done) = true
is_of_open _ = false

-- the calls that a hit makes: it opens a request, looks up, reads and drops it. Where nothing is whole and fresh it makes none; a refused one is the last
-- but for the drop of what was opened
abbrev pub MatchHit : MomentValue → ℕ → CacheKeyValue → Result (Option Hit) TierFault → (List Event → List Outcome → Type 0) → Type 0 → Type 0
MatchHit t id key (Ok (Some h)) made none =
    made (at_moment t (Open id key false) ∷ at_moment t (LookUp id) ∷ at_moment t (Read id) ∷ at_moment t (Drop id) ∷ [])
    (Ok Opened ∷ Ok (Found true true given.None) ∷ Ok (Bytes h.body) ∷ Ok Dropped ∷ [])
MatchHit t id key (Ok None) made none = none
MatchHit t id key (Err f) made none =
    Whether (is_of_open f) (made (at_moment t (Open id key false) ∷ []) (Err f ∷ []))
    (made (at_moment t (Open id key false) ∷ at_moment t (LookUp id) ∷ at_moment t (Drop id) ∷ []) (Ok Opened ∷ Err f ∷ Ok Dropped ∷ []))

-- they were taken, and drew no word; or nothing changed
abbrev pub HitTakes : State → Stream → MomentValue → ℕ → CacheKeyValue → Result (Option Hit) TierFault → State → Type 0
HitTakes old s t id key result new = MatchHit t id key result (λ events outcomes. Takes old s events outcomes new s) (new ≡ old)

-- how many look-ups found something, after a hit
abbrev pub found_by_hit : Result (Option Hit) TierFault → ℕ → ℕ
found_by_hit (Ok (Some h)) n = counted n 1
found_by_hit _ n = n

-- why the entry of a body isn't used: it isn't tracked, and is kept out
abbrev pub UseIsRefused : ℕ → (ℕ → ℕ) → CacheEntryKey → Body → Managed → TierFault → Type 0
UseIsRefused n weighed e b m f =
    (weight_of e (rows_of n e m) ≡ None) × ((cause : EvictFault) × IsPutRefused n e (weighed (size_of b)) m cause × (f ≡ fault_for cause nothing_done))

-- the body is handed out, and its entry used, in n shards; or memory runs out, or its entry is kept out
abbrev pub HitAnswer : ℕ → (ℕ → ℕ) → CacheEntryKey → Option Body → Managed → Result (Option Hit) TierFault → Managed → Type 0
HitAnswer n weighed e b m (Ok (Some h)) m' = (b ≡ Some (body_in h)) × (m' ≡ use_first n e (weighed (size_of (body_in h))) m)
HitAnswer n weighed e b m (Ok None) m' = (b ≡ None) × (m' ≡ m)
HitAnswer n weighed e b m (Err f) m' = (m' ≡ m) × ((f ≡ out_of_memory) ⊎ ((x : Body) × (b ≡ Some x) × UseIsRefused n weighed e x m f))

-- a use of the entry of a body that weighs that
abbrev pub UsesEntry : ℕ → (ℕ → ℕ) → CacheEntryKey → ℕ → Managed → Result (Unit {0}) TierFault → Managed → Type 0
UsesEntry n weighed e weight m (Ok v) m' = m' ≡ use_first n e (weighed weight) m
UsesEntry n weighed e weight m (Err f) m' =
    (m' ≡ m) × (weight_of e (rows_of n e m) ≡ None) × ((cause : EvictFault) × IsPutRefused n e (weighed weight) m cause × (f ≡ fault_for cause nothing_done))

abbrev pub handed : Hit → Result (Unit {0}) TierFault → Result (Option Hit) TierFault
handed h (Ok v) = Ok (Some h)
handed h (Err f) = Err f

-- ---- of a tier that others call too

-- some calls before, with which this look-up keeps the promise, show that head to its request
pub record OneFound (t : MomentValue) (id : ℕ) (a : Answer) (m : Option CacheMeta) : Type 0 where
  pub settings : Settings
  pub used : ℕ
  pub loaded : List Tracked
  pub before : History
  pub call : Call
  pub event : call.event ≡ at_moment t (LookUp id)
  pub answer : call.outcome ≡ Ok a
  pub promise : Promise settings used loaded (call ∷ before)
  pub head : m ≡ head_found id (now_of settings loaded before)

-- some calls before, which keep the promise, show that of the key as whole and fresh
pub record OneHit (t : MomentValue) (k : StoredKey) (b : Option Body) : Type 0 where
  pub settings : Settings
  pub used : ℕ
  pub loaded : List Tracked
  pub before : History
  pub promise : Promise settings used loaded before
  pub hit : b ≡ hit_in t k (now_of settings loaded before).changes
