-- What look-ups answer.
use Rattle.std.specs.Prelude.{◌≡◌, ℕ, Bool, true, false, Option, Some, None, option_map, is_some, Result, Ok, Err, MatchResult, IfOk, IfSome, ⊤, if◌then◌else◌}
use Rattle.cache_words.specs.Time.{MomentValue}
use Rattle.cache_changes.specs.Changes.{StoredKey}
use Rattle.cache_entries.specs.declared.entry.CacheEntryId.{CacheEntryId}
use Rattle.cache_changes.specs.Store.{Stored, Store, body_at}
use Rattle.cache_heads.specs.Fresh.{is_fresh_at}
use Rattle.cache_heads.specs.declared.meta.CacheMeta.{CacheMeta}
use Rattle.head_lines.specs.declared.header.ResponseHeader.{ResponseHeader}
use Rattle.cache_store.specs.declared.storage.store.FoundAt.{FoundAt}
use Rattle.cache_store.specs.declared.storage.store.FoundAt.TheVariants.{Fresh, Stale}
use Rattle.cache_store.specs.declared.storage.store.FreshLook.{FreshLook}
use Rattle.cache_store.specs.declared.storage.store.FreshLook.TheVariants as for_fresh
use Rattle.cache_store.specs.declared.storage.StoreFault.{StoreFault}
use Rattle.cache_store.specs.declared.storage.StoreFault.TheVariants.{Memory, WriteRemoved}
use Rattle.cache_store.specs.Answers.{Look, in_flight, finished, look_of, look_up, streamed}
use Rattle.cache_store.specs.StoreState.{StoreState}
use Rattle.cache_store.specs.Readers.{Reader, whole, streaming, IsJoined, SameStoreState}

-- what a look-up of a key shows, by whether the store shows writes in flight
abbrev pub shows : Bool → StoredKey → Store CacheMeta → Option Look
shows true k s = look_up k s
shows false k s = look_of None (body_at k s)

-- the meta, and a reader of that
abbrev pub IsFoundAs : {H : Type 0} → (H → Reader) → CacheMeta → Reader → Option (CacheMeta × H) → Type 0
IsFoundAs reader meta r None = ⊥
IsFoundAs reader meta r (Some found) = (found.0 ≡ meta) × (reader found.1 ≡ r)

-- what a look-up answers, by what it shows: the meta and a reader that has read nothing. Of a write in flight the reader is counted
abbrev pub LookAnswer : {H : Type 0} → (H → Reader) → Option Look → StoreState → Result (Option (CacheMeta × H)) StoreFault → StoreState → Type 0
LookAnswer reader None old r new = (r ≡ Ok None) × (new ≡ old)
LookAnswer reader (Some (finished x)) old r new = MatchResult r (IsFoundAs reader x.meta (whole x.write.number x.bytes x.bytes)) (λ f. f ≡ Memory) × (new ≡ old)
LookAnswer reader (Some (in_flight x)) old r new =
    MatchResult r (λ found. IsFoundAs reader x.meta (streaming (record { number = x.write.number; place = 0 })) found × IsJoined x.write.number old new) (λ f. (f ≡ Memory) × (new ≡ old))

-- what a look-up of one write answers, by what it shows
abbrev pub StreamAnswer : {H : Type 0} → (H → Reader) → Option Look → StoreState → Result (Option (CacheMeta × H)) StoreFault → StoreState → Type 0
StreamAnswer reader None old r new = (r ≡ Err WriteRemoved) × (new ≡ old)
StreamAnswer reader (Some x) old r new = LookAnswer reader (Some x) old r new

-- what a look-up shows that may name a write by its number: that write, and where it names none what a look-up of the key shows
abbrev pub asked : Bool → StoredKey → Option ℕ → Store CacheMeta → Option Look
asked streams k None s = shows streams k s
asked streams k (Some n) s = streamed k n s

-- what such a look-up answers, by what it shows
abbrev pub TagAnswer : {H : Type 0} → (H → Reader) → Option ℕ → Option Look → StoreState → Result (Option (CacheMeta × H)) StoreFault → StoreState → Type 0
TagAnswer reader None look old r new = LookAnswer reader look old r new
TagAnswer reader (Some n) look old r new = StreamAnswer reader look old r new

-- what a reader reports of a finished body that was found: what the body weighs, and the id that is stored under the key
abbrev pub Tells : {H : Type 0} → (H → ℕ) → (H → Option CacheEntryId) → (Stored CacheMeta → ℕ) → Option CacheEntryId → Option Look → Result (Option (CacheMeta × H)) StoreFault → Type 0
Tells weight id weigh stored (Some (finished x)) (Ok (Some found)) = (weight found.1 ≡ weigh x) × (id found.1 ≡ stored)
Tells weight id weigh stored _ _ = ⊤

-- what is found, without its meta
abbrev pub reader_found : {H : Type 0} → Result (Option (CacheMeta × H)) StoreFault → Result (Option H) StoreFault
reader_found (Ok found) = Ok (option_map (λ f. f.1) found)
reader_found (Err f) = Err f

-- what a look-up answers that may name a write by its number and gives a reader alone: what such a look-up would, without its meta
abbrev pub ReaderAnswer : {H : Type 0} → (H → Reader) → (H → ℕ) → (H → Option CacheEntryId) → (Stored CacheMeta → ℕ) → Option CacheEntryId → Option ℕ → Option Look → StoreState → Result (Option H) StoreFault → StoreState → Type 0
ReaderAnswer {H} reader weight id weigh stored named look old r new =
    (found : Result (Option (CacheMeta × H)) StoreFault) × TagAnswer reader named look old found new × Tells weight id weigh stored look found × (r ≡ reader_found found)

-- what is found, as it is reported at a moment: of a fresh response only how long it is fresh
abbrev pub told_at : {H : Type 0} → MomentValue → CacheMeta × H → FoundAt H
told_at moment found =
    if is_fresh_at found.0.internal.fresh_until moment then Fresh found.0.internal.fresh_until found.1 else Stale found.0 found.1

abbrev pub answer_at : {H : Type 0} → MomentValue → Result (Option (CacheMeta × H)) StoreFault → Result (Option (FoundAt H)) StoreFault
answer_at moment (Ok found) = Ok (option_map (told_at moment) found)
answer_at moment (Err f) = Err f

-- what a look-up at a moment answers: what a look-up would, as that is reported at the moment
abbrev pub LookAtAnswer : {H : Type 0} → (H → Reader) → (H → ℕ) → (H → Option CacheEntryId) → (Stored CacheMeta → ℕ) → Option CacheEntryId → MomentValue → Option Look → StoreState → Result (Option (FoundAt H)) StoreFault → StoreState → Type 0
LookAtAnswer {H} reader weight id weigh stored moment look old r new =
    (found : Result (Option (CacheMeta × H)) StoreFault) × LookAnswer reader look old found new × Tells weight id weigh stored look found × (r ≡ answer_at moment found)

-- what a look-up shows is fresh at a moment
abbrev pub is_fresh_look : MomentValue → Option Look → Bool
is_fresh_look moment None = false
is_fresh_look moment (Some (in_flight x)) = is_fresh_at x.meta.internal.fresh_until moment
is_fresh_look moment (Some (finished x)) = is_fresh_at x.meta.internal.fresh_until moment

-- what a look-up for a fresh response answers: what a look-up at the moment would, where that is fresh; else whether there is any, and nothing changed
abbrev pub LookFreshAnswer : {H : Type 0} → (H → Reader) → (H → ℕ) → (H → Option CacheEntryId) → (Stored CacheMeta → ℕ) → Option CacheEntryId → MomentValue → Option Look → StoreState → Result (FreshLook H) StoreFault → StoreState → Type 0
LookFreshAnswer reader weight id weigh stored moment look old (Ok (for_fresh.Fresh until hit)) new = LookAtAnswer reader weight id weigh stored moment look old (Ok (Some (Fresh until hit))) new
LookFreshAnswer reader weight id weigh stored moment look old (Ok for_fresh.Stale) new = (is_some look ≡ true) × (is_fresh_look moment look ≡ false) × SameStoreState old new
LookFreshAnswer reader weight id weigh stored moment look old (Ok for_fresh.Absent) new = (look ≡ None) × SameStoreState old new
LookFreshAnswer reader weight id weigh stored moment look old (Err f) new = (f ≡ Memory) × (is_some look ≡ true) × (new ≡ old)

-- the head that a reader holds, if it holds one, is that of what is shown
abbrev pub IsHeadOf : Option ResponseHeader → Option Look → Type 0
IsHeadOf None look = ⊤
IsHeadOf (Some head) None = ⊥
IsHeadOf (Some head) (Some (in_flight x)) = head ≡ x.meta.header
IsHeadOf (Some head) (Some (finished x)) = head ≡ x.meta.header

-- the reader that is told of
abbrev pub hit_at : {H : Type 0} → FoundAt H → H
hit_at (Fresh until hit) = hit
hit_at (Stale meta hit) = hit

-- the reader that a look-up answers holds that head: of a look-up, of one at a moment, and of one for a fresh response
abbrev pub HasHeadOf : {H : Type 0} → (H → Option ResponseHeader) → Option Look → Result (Option (CacheMeta × H)) StoreFault → Type 0
HasHeadOf head look r = IfOk r (λ found. IfSome found (λ f. IsHeadOf (head f.1) look))

abbrev pub HasHeadAt : {H : Type 0} → (H → Option ResponseHeader) → Option Look → Result (Option (FoundAt H)) StoreFault → Type 0
HasHeadAt head look r = IfOk r (λ found. IfSome found (λ f. IsHeadOf (head (hit_at f)) look))

abbrev pub HasHeadFresh : {H : Type 0} → (H → Option ResponseHeader) → Option Look → Result (FreshLook H) StoreFault → Type 0
HasHeadFresh head look (Ok (for_fresh.Fresh until hit)) = IsHeadOf (head hit) look
HasHeadFresh head look _ = ⊤
