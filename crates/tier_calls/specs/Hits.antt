-- Finds and hits, and what they hand over.
use Rattle.std.specs.Prelude.{◌≡◌, ◌⊎◌, ℕ, List, [], ◌∷◌, length, true, Option, Some, None, option_map, MatchOption, Result, Ok, Err, IfOk}
use Rattle.std.specs.FinMap.{get}
use Rattle.rand_core.specs.Stream.{Stream}
use Rattle.cache_words.specs.Key.{CacheKeyValue}
use Rattle.cache_words.specs.Time.{MomentValue}
use Rattle.cache_entries.specs.declared.entry.CacheEntryKey.{CacheEntryKey}
use Rattle.tier_model.specs.Calls.{done_of}
use Rattle.tier_model.specs.Keys.{stored_key_of}
use Rattle.tier_model.specs.State.{State}
use Rattle.tier_model.specs.declared.event.Action.TheVariants.{LookUp}
use Rattle.tier_model.specs.declared.event.Answer.{Answer}
use Rattle.tier_model.specs.declared.event.Answer.TheVariants as answer
use Rattle.tier_model.specs.declared.event.LockGiven.TheVariants as given
use Rattle.tier_model.specs.declared.event.TierFault.{TierFault}
use Rattle.tier_model.specs.declared.event.TierFault.TheVariants as fault
use Rattle.tier_single.specs.GivesUp.{last_moment}
use Rattle.tier_single.specs.Hits.{FindsHead, HitTakes, IsHitOf, answer_found, at_moment, body_in, meta_of}
use Rattle.tier_single.specs.Takes.{Takes}
use Rattle.tier_single.specs.declared.found.FoundMeta.{FoundMeta}
use Rattle.tier_single.specs.declared.found.Hit.{Hit}
use Rattle.tier_calls.specs.Answers.{IsRefused, IsWithout}
use Rattle.tier_calls.specs.Arguments.{moment_at, IsKeyIn, IsNoKey}
use Rattle.tier_calls.specs.Shown.{IsHeadOf, IsNoHead, told_len, keeps_nothing}
use Rattle.tier_calls.specs.Told.{plain, told_of}
use Rattle.tier_calls.specs.Tiers.{state_of, found_in}
use Rattle.tier_calls.specs.declared.held.TierHandle.{TierHandle}
use Rattle.tier_calls.specs.declared.keeps.Keep.{Keep}
use Rattle.tier_calls.specs.declared.shards.Shards.{Shards}
use Rattle.tier_calls.specs.declared.structs.FoundShown.{FoundShown}

-- nothing is handed over but an answer
abbrev pub IsOnlyAnswer : FoundShown → Keep → Type 0
IsOnlyAnswer out k = IsNoHead out.head × (out.body.len ≡ 0) × (k ≡ keeps_nothing)

-- the entries that went before a refusal
abbrev pub evicted_of : {X : Type 0} → Result X TierFault → List CacheEntryKey
evicted_of (Ok x) = []
evicted_of (Err fault) = (done_of fault).evicted

-- ---- finds

-- the tier that is there took a look-up, and gave the head of what that finds
abbrev pub FindsIn : Shards → MomentValue → ℕ → Result (Answer × Option FoundMeta) TierFault → Shards → Type 0
FindsIn old t id r new =
    (a : State) × (b : State) × (state_of old ≡ Some a) × (state_of new ≡ Some b)
    × ((s : Stream) → Takes a s (at_moment t (LookUp id) ∷ []) (answer_found r ∷ []) b s)
    × IfOk r (λ x. FindsHead a id (option_map meta_of x.1))

-- its head is handed over, if it has one, with the length of its body, where that is known
abbrev pub IsFindOut : Result (Answer × Option FoundMeta) TierFault → Option ℕ → FoundShown → Keep → Type 0
IsFindOut (Ok r) len out k =
    (out.answer ≡ told_of (Ok r.0)) × (out.body.len ≡ 0)
    × MatchOption r.1 (IsNoHead out.head × (k ≡ keeps_nothing))
    (λ m. IsHeadOf m.head m.internal m.external (told_len len) out.head × (k ≡ record { body = None; head = Some m.head }))
IsFindOut (Err fault) len out k = (out.answer ≡ told_of (Err fault)) × IsOnlyAnswer out k

abbrev pub IsFindBy : TierHandle → MomentValue → ℕ → FoundShown → TierHandle → Keep → Type 0
IsFindBy h t id out h' k =
    ((r : Result (Answer × Option FoundMeta) TierFault) × FindsIn h.tier t id r h'.tier × IsFindOut r (found_in h'.tier id) out k
    × (h' ≡ record h { tier = h'.tier; evicted = evicted_of r }))
    ⊎ (IsWithout h out.answer h' × IsOnlyAnswer out k)

abbrev pub IsFind : TierHandle → ℕ → ℕ → ℕ → FoundShown → TierHandle → Keep → Type 0
IsFind h seconds nanoseconds id out h' k =
    ((t : MomentValue) × (moment_at seconds nanoseconds ≡ Some t) × IsFindBy h t id out h' k)
    ⊎ ((moment_at seconds nanoseconds ≡ None) × IsRefused 20 h out.answer h' × IsOnlyAnswer out k)

-- the tier that is there took a look-up at the last moment that there is; or it refused one of a request that was opened with the lock
abbrev pub LooksUpStale : Shards → ℕ → Result (Answer × Option FoundMeta) TierFault → Shards → Type 0
LooksUpStale old id r new =
    FindsIn old last_moment id r new
    ⊎ ((a : State) × (state_of old ≡ Some a) × (option_map (λ q. q.asks) (get a.requests id) ≡ Some true) × (r ≡ Err fault.WrongPhase) × (new ≡ old))

abbrev pub IsLookUpStale : TierHandle → ℕ → FoundShown → TierHandle → Keep → Type 0
IsLookUpStale h id out h' k =
    ((r : Result (Answer × Option FoundMeta) TierFault) × LooksUpStale h.tier id r h'.tier × IsFindOut r (found_in h'.tier id) out k
    × (h' ≡ record h { tier = h'.tier; evicted = evicted_of r }))
    ⊎ (IsWithout h out.answer h' × IsOnlyAnswer out k)

-- ---- hits

-- the tier that is there made the calls of a hit, by a request of any number that isn't open; what is handed out is the key's body where that is whole and
-- fresh, and nothing else
abbrev pub HitsIn : Shards → MomentValue → CacheKeyValue → Result (Option Hit) TierFault → Shards → Type 0
HitsIn old t key r new =
    (a : State) × (b : State) × (state_of old ≡ Some a) × (state_of new ≡ Some b)
    × ((id : ℕ) (s : Stream) → get a.requests id ≡ None → HitTakes a s t id key r b)
    × IfOk r (λ hit. IsHitOf a t (stored_key_of key) (option_map body_in hit))

-- body and head are handed over
abbrev pub IsHitOut : Result (Option Hit) TierFault → FoundShown → Keep → Type 0
IsHitOut (Ok (Some hit)) out k =
    (out.answer ≡ told_of (Ok (answer.Found true true given.None))) × IsHeadOf hit.meta.head hit.meta.internal hit.meta.external (length hit.body) out.head
    × (out.body.len ≡ length hit.body) × (k ≡ record { body = Some hit.body; head = Some hit.meta.head })
IsHitOut (Ok None) out k = (out.answer ≡ plain 51) × IsOnlyAnswer out k
IsHitOut (Err fault) out k = (out.answer ≡ told_of (Err fault)) × IsOnlyAnswer out k

abbrev pub IsHitBy : TierHandle → MomentValue → CacheKeyValue → FoundShown → TierHandle → Keep → Type 0
IsHitBy h t key out h' k =
    ((r : Result (Option Hit) TierFault) × HitsIn h.tier t key r h'.tier × IsHitOut r out k × (h' ≡ record h { tier = h'.tier; evicted = evicted_of r }))
    ⊎ (IsWithout h out.answer h' × IsOnlyAnswer out k)

-- a hit by the key of these arguments at their moment, if they are a key and a moment; or there was no memory for its tag
abbrev pub IsHit : TierHandle → ℕ → ℕ → ℕ → List ℕ → List ℕ → FoundShown → TierHandle → Keep → Type 0
IsHit h seconds nanoseconds digested key tag out h' k =
    ((t : MomentValue) × (key' : CacheKeyValue) × (moment_at seconds nanoseconds ≡ Some t) × IsKeyIn digested key tag key'
    × (IsHitBy h t key' out h' k ⊎ (IsRefused 13 h out.answer h' × IsOnlyAnswer out k)))
    ⊎ (((moment_at seconds nanoseconds ≡ None) ⊎ IsNoKey digested key tag) × IsRefused 20 h out.answer h' × IsOnlyAnswer out k)
