-- What a proxy claims of its own answers, by whatever past its tier had.
use Rattle.std.specs.Prelude.{◌≡◌, ◌+◌, ℕ, List, ◌∷◌, Option, option_map, Result, Ok, Err}
use Rattle.cache_words.specs.Time.{MomentValue}
use Rattle.cache_words.specs.Key.{CacheKeyValue}
use Rattle.tier_model.specs.declared.event.Event.{Event}
use Rattle.tier_model.specs.declared.event.TierFault.{TierFault}
use Rattle.tier_model.specs.Calls.{Call, History, Outcome, extended}
use Rattle.tier_model.specs.Histories.{Opening}
use Rattle.tier_model.specs.Keys.{stored_key_of}
use Rattle.tier_model.specs.State.{State}
use Rattle.tier_model.specs.Past.{HasPast}
use Rattle.tier_promise.specs.Promise.{Now, now_of, Promise}
use Rattle.tier_single.specs.Hits.{hit_in}

-- the event was one call more, and with it the past keeps the promise
abbrev pub Answers : State → Event → Outcome → State → Type 0
Answers old e o new = (start : Opening) (past : History) → HasPast start old past
    → (c : Call) × (c.event ≡ e) × (c.outcome ≡ o) × HasPast start new (c ∷ past) × Promise start.settings (start.first + start.first_core) start.loaded (c ∷ past)

-- some calls were made, and the answer says that of what the past before them shows
abbrev pub Tells : {A : Type 0} → (A → Now → Type 0) → State → Result A TierFault → State → Type 0
Tells says old (Ok a) new = (start : Opening) (past : History) → HasPast start old past
    → (calls : List Call) × HasPast start new (extended past calls) × says a (now_of start.settings start.loaded past)
Tells says old (Err f) new = (start : Opening) (past : History) → HasPast start old past → (calls : List Call) × HasPast start new (extended past calls)

-- a body that is found is the bytes of the key's body, which is whole and fresh at the moment; where there is none, none is
abbrev pub IsFind : MomentValue → CacheKeyValue → Option (List ℕ) → Now → Type 0
IsFind t key bytes now = bytes ≡ option_map (λ b. b.bytes) (hit_in t (stored_key_of key) now.changes)
