-- What each call does.
pub use Rattle.tier_calls.specs.Hits.{IsFind, IsLookUpStale, IsHit}
pub use Rattle.tier_calls.specs.Made.{IsMade}
use Rattle.std.specs.Prelude.{◌≡◌, ◌⊎◌, ℕ, ◌+◌, true, false, List, [], ◌∷◌, length, slice_get, Option, Some, None, option_map, unwrap_or, MatchOption, Result, Ok, Err}
use Rattle.lru_files.specs.Folder.{IsPut as IsPutInto, IsSame}
use Rattle.lru_files.specs.MemFolder.{files_of}
use Rattle.lru_files.specs.declared.mem_folder.MemFolder.{MemFolder}
use Rattle.cache_words.specs.Key.{CacheKeyValue}
use Rattle.cache_words.specs.Time.{MomentValue}
use Rattle.cache_entries.specs.declared.entry.CacheEntryKey.{CacheEntryKey}
use Rattle.cache_heads.specs.declared.given.GivenMeta.{GivenMeta}
use Rattle.cache_heads.specs.declared.meta.CacheMeta.{CacheMeta}
use Rattle.tier_model.specs.Calls.{Outcome}
use Rattle.tier_model.specs.Keys.{stored_key_of}
use Rattle.tier_model.specs.Reports.{report_of}
use Rattle.tier_model.specs.State.{State}
use Rattle.tier_model.specs.declared.event.Action.TheVariants.{Open, LookUp, Poll, Begin, Revalidate, Piece, Finish, Read, Drop, Purge, Put}
use Rattle.tier_model.specs.declared.event.Answer.TheVariants as answer
use Rattle.tier_model.specs.declared.event.Event.{Event}
use Rattle.tier_model.specs.declared.event.TierFault.{TierFault}
use Rattle.tier_model.specs.declared.report.Report.{Report}
use Rattle.tier_calls.specs.Answers.{words_of, IsRefused, IsWithout, IsAnswered, IsAnsweredAlways, IsAnsweredAt}
use Rattle.tier_model.specs.NoStore.{no_store_head}
use Rattle.tier_calls.specs.Bounds.{outside, size_of_put, is_too_large, IsWithin}
use Rattle.tier_calls.specs.Arguments.{is_set, moment_at, by_digests, digests_in, IsKeyIn, IsNoKey, given_in}
use Rattle.tier_calls.specs.Restarts.{file_path, StartsIn, SavesIn}
use Rattle.tier_calls.specs.Shown.{IsEntryShown, IsHeadOf, IsNoHead, keeps_nothing}
use Rattle.tier_calls.specs.Tiers.{state_of, finished_in, whole_in, outside_in, entries_at, Steps}
use Rattle.tier_calls.specs.Told.{plain, read_told, fault_number}
use Rattle.tier_calls.specs.declared.arguments.Digests.{Digests}
use Rattle.tier_calls.specs.declared.held.TierHandle.{TierHandle}
use Rattle.tier_calls.specs.declared.keeps.Keep.{Keep}
use Rattle.tier_calls.specs.declared.shards.Loaded.{Loaded}
use Rattle.tier_calls.specs.declared.shards.Saved.{Saved}
use Rattle.tier_calls.specs.declared.shards.Shards.{Shards}
use Rattle.tier_calls.specs.declared.shards.StartFault.TheVariants.{NotNew, Memory}
use Rattle.tier_calls.specs.declared.structs.CallAnswer.{CallAnswer}
use Rattle.tier_calls.specs.declared.structs.Counts.{Counts}
use Rattle.tier_calls.specs.declared.structs.EntryShown.{EntryShown}
use Rattle.tier_calls.specs.declared.structs.FileShown.{FileShown}
use Rattle.tier_calls.specs.declared.structs.FoundShown.{FoundShown}
use Rattle.tier_calls.specs.declared.structs.Lent.{Lent}
use Rattle.tier_calls.specs.declared.structs.MetaWords.{MetaWords}

-- ---- events of requests

-- a request was opened for the key of these arguments, if there is one; or there was no memory for its tag
abbrev pub IsOpen : TierHandle → ℕ → ℕ → ℕ → List ℕ → List ℕ → CallAnswer → TierHandle → Type 0
IsOpen h id lock digested key tag out h' =
    ((k : CacheKeyValue) × IsKeyIn digested key tag k × (IsAnsweredAlways h (Open id k (is_set lock)) out h' ⊎ IsRefused 13 h out h'))
    ⊎ (IsNoKey digested key tag × IsRefused 20 h out h')

abbrev pub IsLookUp : TierHandle → ℕ → ℕ → ℕ → CallAnswer → TierHandle → Type 0
IsLookUp h seconds nanoseconds id out h' = IsAnsweredAt h seconds nanoseconds (LookUp id) out h'

abbrev pub IsPoll : TierHandle → ℕ → ℕ → ℕ → CallAnswer → TierHandle → Type 0
IsPoll h seconds nanoseconds id out h' = IsAnsweredAt h seconds nanoseconds (Poll id) out h'

-- an event at a moment with what is given of a response, if both are in their ranges; or there was no memory for its bytes
abbrev pub IsAnsweredWith : TierHandle → ℕ → ℕ → ℕ → MetaWords → (MomentValue → Option GivenMeta → Event) → CallAnswer → TierHandle → Type 0
IsAnsweredWith h seconds nanoseconds given meta event out h' =
    ((t : MomentValue) × (g : Option GivenMeta) × (moment_at seconds nanoseconds ≡ Some t) × (given_in given meta ≡ Some g)
    × (IsAnswered h (event t g) out h' ⊎ IsRefused 13 h out h'))
    ⊎ (((moment_at seconds nanoseconds ≡ None) ⊎ (given_in given meta ≡ None)) × IsRefused 20 h out h')

-- a write begins, unless its body has more outside than a body may have
abbrev pub IsBegin : TierHandle → ℕ → ℕ → ℕ → List ℕ → ℕ → MetaWords → CallAnswer → TierHandle → Type 0
IsBegin h seconds nanoseconds id head given meta out h' =
    ((t : MomentValue) × (g : Option GivenMeta) × (moment_at seconds nanoseconds ≡ Some t) × (given_in given meta ≡ Some g)
    × IsWithin h (outside g) (λ out' left. IsAnswered h (record { moment = t; action = Begin id head g }) out' left ⊎ IsRefused 13 h out' left) out h')
    ⊎ (((moment_at seconds nanoseconds ≡ None) ⊎ (given_in given meta ≡ None)) × IsRefused 20 h out h')

abbrev pub IsRevalidate : TierHandle → ℕ → ℕ → ℕ → List ℕ → ℕ → MetaWords → CallAnswer → TierHandle → Type 0
IsRevalidate h seconds nanoseconds id head given meta out h' =
    IsAnsweredWith h seconds nanoseconds given meta (λ t g. record { moment = t; action = Revalidate id head g }) out h'

abbrev pub IsPiece : TierHandle → ℕ → ℕ → List ℕ → CallAnswer → TierHandle → Type 0
IsPiece h id last bytes out h' =
    ((is_too_large h id (length bytes) ≡ true) × IsRefused 24 h out h')
    ⊎ ((is_too_large h id (length bytes) ≡ false) × (IsAnsweredAlways h (Piece id bytes (is_set last)) out h' ⊎ IsRefused 13 h out h'))

-- its response won't be stored: of each moment the begin of one that no cache may store
abbrev pub IsGiveUp : TierHandle → ℕ → CallAnswer → TierHandle → Type 0
IsGiveUp h id out h' = IsAnsweredAlways h (Begin id no_store_head None) out h'

abbrev pub IsFinish : TierHandle → ℕ → CallAnswer → TierHandle → Type 0
IsFinish h id out h' = IsAnsweredAlways h (Finish id) out h'

abbrev pub IsDrop : TierHandle → ℕ → CallAnswer → TierHandle → Type 0
IsDrop h id out h' = IsAnsweredAlways h (Drop id) out h'

-- ---- keys without a request

abbrev pub IsPurge : TierHandle → ℕ → List ℕ → List ℕ → CallAnswer → TierHandle → Type 0
IsPurge h digested key tag out h' =
    ((k : CacheKeyValue) × IsKeyIn digested key tag k × (IsAnsweredAlways h (Purge k) out h' ⊎ IsRefused 13 h out h'))
    ⊎ (IsNoKey digested key tag × IsRefused 20 h out h')

-- what a put of so many bytes does by its key, if it has one; there may be no memory for the tag or the copies
abbrev pub IsPutBy : TierHandle → ℕ → ℕ → List ℕ → List ℕ → (CacheKeyValue → Event) → CallAnswer → TierHandle → Type 0
IsPutBy h size digested key tag event out h' =
    ((k : CacheKeyValue) × IsKeyIn digested key tag k
    × (IsWithin h size (λ out' left. IsAnswered h (event k) out' left ⊎ IsRefused 13 h out' left) out h' ⊎ IsRefused 13 h out h'))
    ⊎ (IsNoKey digested key tag × IsRefused 20 h out h')

-- a response of a head and a body was put under the key of these arguments, as two pieces
abbrev pub IsPut : TierHandle → ℕ → ℕ → ℕ → List ℕ → List ℕ → List ℕ → List ℕ → ℕ → MetaWords → CallAnswer → TierHandle → Type 0
IsPut h seconds nanoseconds digested key tag head body given meta out h' =
    ((t : MomentValue) × (g : Option GivenMeta) × (moment_at seconds nanoseconds ≡ Some t) × (given_in given meta ≡ Some g)
    × IsPutBy h (size_of_put head body g) digested key tag (λ k. record { moment = t; action = Put k (head ∷ body ∷ []) g }) out h')
    ⊎ (((moment_at seconds nanoseconds ≡ None) ⊎ (given_in given meta ≡ None)) × IsRefused 20 h out h')

-- ---- what is handed over

-- the bytes that a read answers, if it does
abbrev pub bytes_in : Outcome → Option (List ℕ)
bytes_in (Ok (answer.Bytes bytes)) = Some bytes
bytes_in _ = None

-- as many bytes are lent, and kept; or none
abbrev pub IsBodyOut : Option (List ℕ) → Lent → Keep → Type 0
IsBodyOut o body k =
    MatchOption o ((body.len ≡ 0) × (k ≡ keeps_nothing)) (λ bytes. (body.len ≡ length bytes) × (k ≡ record { body = Some bytes; head = None }))

-- the request read on: what is told of an end looks at the tier after it
abbrev pub IsRead : TierHandle → ℕ → FoundShown → TierHandle → Keep → Type 0
IsRead h id out h' k =
    IsNoHead out.head
    × (((outcome : Outcome)
    × ((t : MomentValue) → Steps h.tier (words_of h.rng) (record { moment = t; action = Read id }) outcome h'.tier (words_of h'.rng))
    × (out.answer ≡ read_told (whole_in h'.tier id) outcome) × (h' ≡ record h { tier = h'.tier; evicted = [] }) × IsBodyOut (bytes_in outcome) out.body k)
    ⊎ (IsWithout h out.answer h' × IsBodyOut None out.body k))

-- nothing is handed over, for this reason
abbrev pub IsNothingOut : ℕ → FoundShown → Keep → Type 0
IsNothingOut reason out k = (out.answer ≡ plain reason) × IsNoHead out.head × (out.body.len ≡ 0) × (k ≡ keeps_nothing)

-- a body with its meta is handed over; or no share could be made
abbrev pub IsKeptOut : CacheMeta → List ℕ → FoundShown → Keep → Type 0
IsKeptOut meta bytes out k =
    ((out.answer ≡ plain 33) × IsHeadOf meta.header meta.internal meta.external (length bytes) out.head × (out.body.len ≡ length bytes)
    × (k ≡ record { body = Some bytes; head = Some meta.header }))
    ⊎ IsNothingOut 13 out k

-- the finished body of a key is handed over, if it has one
abbrev pub IsKeptBy : Shards → CacheKeyValue → FoundShown → Keep → Type 0
IsKeptBy tier key out k =
    ((f : CacheMeta × List ℕ) × (finished_in tier (stored_key_of key) ≡ Some f) × IsKeptOut f.0 f.1 out k)
    ⊎ ((finished_in tier (stored_key_of key) ≡ None) × IsNothingOut 22 out k)

-- by the key of these arguments, if they are one: it is no look-up and no use
abbrev pub IsKept : TierHandle → ℕ → List ℕ → FoundShown → TierHandle → Keep → Type 0
IsKept h digested key out h' k =
    (h' ≡ h)
    × (((d : Digests) × (digests_in digested key ≡ Some d) × IsKeptBy h.tier (by_digests d.primary d.variance []) out k)
    ⊎ ((digests_in digested key ≡ None) × IsNothingOut 20 out k))

-- ---- lists and counts

abbrev pub IsEvicted : TierHandle → ℕ → EntryShown → TierHandle → Type 0
IsEvicted h place out h' = (h' ≡ h) × IsEntryShown (slice_get h.evicted place) 0 out

-- the entries of a shard are listed, most recently used first; or there is no memory for them, or no such shard
abbrev pub IsList : TierHandle → ℕ → CallAnswer → TierHandle → Type 0
IsList h shard out h' =
    ((entries : List CacheEntryKey) × (entries_at h.tier shard ≡ Some entries)
    × (((h' ≡ record h { list = entries }) × (out ≡ record (plain 49) { number = length entries })) ⊎ IsRefused 13 h out h'))
    ⊎ ((entries_at h.tier shard ≡ None) × IsRefused 20 h out h')

abbrev pub IsListed : TierHandle → ℕ → EntryShown → TierHandle → Type 0
IsListed h place out h' = (h' ≡ h) × IsEntryShown (slice_get h.list place) (unwrap_or (option_map (outside_in h.tier) (slice_get h.list place)) 0) out

-- the sum of the entries' weights, and how many they are
abbrev pub IsWeight : TierHandle → CallAnswer → TierHandle → Type 0
IsWeight h out h' =
    (h' ≡ h) × (((s : State) × (state_of h.tier ≡ Some s) × (out ≡ record (plain 49) { number = (report_of s).weight; second = (report_of s).tracked })) ⊎ IsWithout h out h')

abbrev pub counts_of : Report → Counts
counts_of r = record {
  found = r.found;
  absent = r.absent;
  bodies = r.bodies;
  bytes = r.bytes;
  meta = r.meta;
  external = r.external;
  tracked = r.tracked;
  weight = r.weight;
  evicted = r.evicted;
  reserved = 0 ∷ 0 ∷ 0 ∷ [];
}

abbrev pub no_counts : Counts
no_counts = record { found = 0; absent = 0; bodies = 0; bytes = 0; meta = 0; external = 0; tracked = 0; weight = 0; evicted = 0; reserved = 0 ∷ 0 ∷ 0 ∷ [] }

abbrev pub IsReported : TierHandle → Counts → TierHandle → Type 0
IsReported h out h' = (h' ≡ h) × (((s : State) × (state_of h.tier ≡ Some s) × (out ≡ counts_of (report_of s))) ⊎ ((state_of h.tier ≡ None) × (out ≡ no_counts)))

-- ---- restarts

-- of a tier that is there: the counts of the files that were loaded, or why nothing was done
abbrev pub IsStartOf : TierHandle → CallAnswer → TierHandle → Type 0
IsStartOf h out h' =
    ((counts : Loaded) × StartsIn h.tier h.folder (Ok counts) h'.tier h'.folder
    × (out ≡ record (plain 48) { number = counts.loaded; second = counts.missing; third = counts.errored }))
    ⊎ (StartsIn h.tier h.folder (Err NotNew) h'.tier h'.folder × (out ≡ plain 21))
    ⊎ (StartsIn h.tier h.folder (Err Memory) h'.tier h'.folder × (out ≡ plain 13))

abbrev pub IsStart : TierHandle → CallAnswer → TierHandle → Type 0
IsStart h out h' = (IsStartOf h out h' × (h' ≡ record h { tier = h'.tier; folder = h'.folder })) ⊎ IsWithout h out h'

-- a save into a folder that had no files
abbrev pub SavesAnew : TierHandle → Result Saved TierFault → MemFolder → Type 0
SavesAnew h came after = (empty : MemFolder) × ((path : List ℕ) → files_of empty path ≡ None) × SavesIn h.tier empty came after

-- of a tier that is there: the counts of the shards that were saved, or why none was, with the files of before
abbrev pub IsSaveOf : TierHandle → CallAnswer → TierHandle → Type 0
IsSaveOf h out h' =
    ((counts : Saved) × SavesAnew h (Ok counts) h'.folder × (out ≡ record (plain 47) { number = counts.saved; second = counts.failed }))
    ⊎ ((fault : TierFault) × (after : MemFolder) × SavesAnew h (Err fault) after × (h'.folder ≡ h.folder) × (out ≡ plain (fault_number fault)))

abbrev pub IsSave : TierHandle → CallAnswer → TierHandle → Type 0
IsSave h out h' = (IsSaveOf h out h' × (h' ≡ record h { folder = h'.folder })) ⊎ IsWithout h out h'

-- the file of a shard was kept, or there was no memory for it
abbrev pub IsHandFile : TierHandle → ℕ → List ℕ → CallAnswer → TierHandle → Type 0
IsHandFile h shard bytes out h' =
    (((out ≡ plain 0) × IsPutInto (files_of h.folder) (files_of h'.folder) (file_path shard) bytes)
    ⊎ ((out ≡ plain 13) × IsSame (files_of h.folder) (files_of h'.folder)))
    × (h' ≡ record h { folder = h'.folder })

abbrev pub IsFileOut : Option (List ℕ) → FileShown → Type 0
IsFileOut o out = MatchOption o ((out.status ≡ 22) × (out.bytes.len ≡ 0)) (λ bytes. (out.status ≡ 49) × (out.bytes.len ≡ length bytes))

-- the file of a shard is lent, if there is one; or there was no memory for its path
abbrev pub IsFile : TierHandle → ℕ → FileShown → TierHandle → Type 0
IsFile h shard out h' =
    (h' ≡ h) × (IsFileOut (files_of h.folder (file_path shard)) out ⊎ ((out.status ≡ 13) × (out.bytes.len ≡ 0)))
