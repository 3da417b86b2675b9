-- Requests of a tier of one shard, as its plain state sees them, and what each does to its order of use and its bodies. None is refused.
use Rattle.std.specs.Prelude.{◌≡◌, ℕ, false, ◌⊎◌, List, [], ◌∷◌, Option, MatchOption}
use Rattle.std.specs.FinMap.{empty}
use Rattle.cache_entries.specs.declared.entry.CacheEntryKey.{CacheEntryKey}
use Rattle.cache_changes.specs.Changes.{stored_key}
use Rattle.cache_evict.specs.Managed.{Managed, fresh, put_first, use_first, taken_out}
use Rattle.curve_loads.specs.Steps.{Step}
use Rattle.curve_loads.specs.Steps as steps
use Rattle.tier_model.specs.declared.state.Body.{Body}
use Rattle.tier_model.specs.Keys.{Entry, alone}
use Rattle.tier_model.specs.Rows.{Bodies, FinishedBody, body_of, with_body, without_body, without_bodies, weight_for}
use Rattle.tier_model.specs.Evictions.{all_gone, GoInTurn}

-- it asks for an entry, for which a response gives that body; or it removes what is stored under a key
pub data PlainRequest : Type 0 where
  asks : FinishedBody → PlainRequest
  purges : Entry → PlainRequest

abbrev pub entry_of : PlainRequest → Entry
entry_of (asks b) = b.entry
entry_of (purges k) = k

abbrev pub step_of : PlainRequest → Step
step_of (asks b) = steps.asks (alone b.entry)
step_of (purges k) = steps.removes (alone k)

abbrev pub steps_of : List PlainRequest → List Step
steps_of [] = []
steps_of (r ∷ before) = step_of r ∷ steps_of before

-- b is stored, as a write of some number, and put first, and these are evicted
abbrev pub Stores : FinishedBody → List CacheEntryKey → Managed → Bodies → Managed → Bodies → Type 0
Stores b es m bodies new after =
    GoInTurn 1 false es (put_first 1 (alone b.entry) (weight_for b.body) m) × (new ≡ all_gone 1 es (put_first 1 (alone b.entry) (weight_for b.body) m))
    × ((n : ℕ) × (after ≡ without_bodies es (with_body n b bodies)))

-- what was found is used: it is fresh, or b takes its place
abbrev pub Uses : FinishedBody → Body → Managed → Bodies → Managed → Bodies → Type 0
Uses b found m bodies new after =
    ((new ≡ use_first 1 (alone b.entry) (weight_for found) m) × (after ≡ bodies))
    ⊎ ((es : List CacheEntryKey) × Stores b es (use_first 1 (alone b.entry) (weight_for found) m) bodies new after)

-- what a request does: an ask that finds nothing stores b, and a purge that finds nothing does nothing
abbrev pub ServesRequest : PlainRequest → Managed → Bodies → Managed → Bodies → Type 0
ServesRequest (asks b) m bodies new after = MatchOption (body_of (stored_key b.entry) bodies) ((es : List CacheEntryKey) × Stores b es m bodies new after) (λ found. Uses b found m bodies new after)
ServesRequest (purges k) m bodies new after =
    MatchOption (body_of (stored_key k) bodies) ((new ≡ m) × (after ≡ bodies)) (λ found. (new ≡ taken_out 1 (alone k) m) × (after ≡ without_body (stored_key k) bodies))

-- the requests, latest first, are served from empty, none refused, and leave this
abbrev pub AreServed : ℕ → Option ℕ → List PlainRequest → Managed → Bodies → Type 0
AreServed limit watermark [] m bodies = (m ≡ fresh 1 limit watermark) × (bodies ≡ empty)
AreServed limit watermark (r ∷ before) new after = (m : Managed) × (bodies : Bodies) × AreServed limit watermark before m bodies × ServesRequest r m bodies new after
