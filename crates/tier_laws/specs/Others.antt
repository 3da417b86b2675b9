-- What a call leaves of another key, and of its own.
use Rattle.std.specs.Prelude.{◌≡◌, ◌≢◌, ◌⊎◌, ℕ, Bool, false, ◌||◌, List, [], ◌∷◌, ◌++◌, length, Some, None, Ok}
use Rattle.cache_entries.specs.declared.entry.CacheEntryKey.{CacheEntryKey}
use Rattle.cache_entries.specs.declared.rows.Tracked.{Tracked}
use Rattle.cache_changes.specs.Bound.{is_entry_of}
use Rattle.cache_changes.specs.Changes.{StoredKey, stored_key}
use Rattle.tier_model.specs.declared.event.Answer.TheVariants as answer
use Rattle.tier_model.specs.Calls.{Call, History, evicted_by, is_revalidation}
use Rattle.tier_model.specs.State.{Settings}
use Rattle.tier_promise.specs.Promise.{Write, Request, Changes, Now, Whether, shown, body_of, bytes_of, waiting, now_of, AreRight}
use Rattle.tier_laws.specs.Keys.{key_of, replaces}

-- one of the entries is of k
abbrev pub lists : StoredKey → List CacheEntryKey → Bool
lists k [] = false
lists k (e ∷ es) = is_entry_of k e || lists k es

-- what is shown of k and held of it is as before, to the byte
pub record IsAsBefore (k : StoredKey) (old new : Changes) : Type 0 where
  pub found : shown k new ≡ shown k old
  pub held : body_of k new ≡ body_of k old
  pub bytes : (w : Write) → (shown k old ≡ Some w) ⊎ (body_of k old ≡ Some w) → bytes_of w.number new ≡ bytes_of w.number old

-- nothing is shown of k, nor held
abbrev pub IsGone : StoredKey → Changes → Type 0
IsGone k c = (shown k c ≡ None) × (body_of k c ≡ None)

-- the same permit of k waits, or none, and the open requests for k are as before
pub record IsUnmoved (k : StoredKey) (old new : Now) : Type 0 where
  pub permit : waiting k new.changes ≡ waiting k old.changes
  pub requests : (id : ℕ) (q : Request) → old.request id ≡ Some q → stored_key q.entry ≡ k → new.request id ≡ Some q

-- whether a call of another key lets k alone, by whether its outcome lists an entry of k as evicted: what is stored of k is as before, or else gone
abbrev pub LetsAlone : Bool → Bool → Type 0
LetsAlone evicted so =
    (s : Settings) (used : ℕ) (loaded : List Tracked) (h : History) (c : Call) (k : StoredKey) → AreRight s used loaded (c ∷ h)
    → key_of c.event.action (now_of s loaded h) ≢ Some k → lists k (evicted_by c.outcome) ≡ evicted
    → Whether so (IsAsBefore k (now_of s loaded h).changes (now_of s loaded (c ∷ h)).changes) (IsGone k (now_of s loaded (c ∷ h)).changes)
    × IsUnmoved k (now_of s loaded h) (now_of s loaded (c ∷ h))

-- whether an answered put or finish that lists no entry of its key makes what it finished, as many bytes as it says, the body of its key
abbrev pub StoresWhatItFinishes : Bool → Type 0
StoresWhatItFinishes so =
    (s : Settings) (used : ℕ) (loaded : List Tracked) (h : History) (c : Call) (k : StoredKey) (size : ℕ) (evicted : List CacheEntryKey) → AreRight s used loaded (c ∷ h)
    → key_of c.event.action (now_of s loaded h) ≡ Some k → c.outcome ≡ Ok (answer.Finished size evicted) → lists k evicted ≡ false
    → Whether so ((w : Write) × (body_of k (now_of s loaded (c ∷ h)).changes ≡ Some w) × (length (bytes_of w.number (now_of s loaded (c ∷ h)).changes) ≡ size)) ⊥

-- a call neither replaces what is stored of k nor evicts an entry of it
pub record Spares (k : StoredKey) (c : Call) (now : Now) : Type 0 where
  pub own : key_of c.event.action now ≡ Some k → replaces c.event.action c.outcome ≡ false
  pub others : lists k (evicted_by c.outcome) ≡ false

-- none of these calls does, after those
abbrev pub AllSpare : Settings → List Tracked → StoredKey → History → History → Type 0
AllSpare s loaded k [] h = Unit {0}
AllSpare s loaded k (c ∷ since) h = Spares k c (now_of s loaded (since ++ h)) × AllSpare s loaded k since h

-- k has the same write as its body, to the byte, though its meta may be renewed
abbrev pub KeepsBody : StoredKey → Write → Changes → Changes → Type 0
KeepsBody k w old new = (v : Write) × (body_of k new ≡ Some v) × (v.number ≡ w.number) × (bytes_of w.number new ≡ bytes_of w.number old)

-- none of these calls is a revalidation of k, after those
abbrev pub NoneConfirms : Settings → List Tracked → StoredKey → History → History → Type 0
NoneConfirms s loaded k [] h = Unit {0}
NoneConfirms s loaded k (c ∷ since) h = (key_of c.event.action (now_of s loaded (since ++ h)) ≡ Some k → is_revalidation c.event.action ≡ false) × NoneConfirms s loaded k since h

-- whether a body stays its key's until a call replaces it or evicts its key; with its meta too, where no revalidation of the key renewed that
abbrev pub BodiesStay : Bool → Type 0
BodiesStay so =
    (s : Settings) (used : ℕ) (loaded : List Tracked) (since h : History) (k : StoredKey) (w : Write) → AreRight s used loaded (since ++ h)
    → body_of k (now_of s loaded h).changes ≡ Some w → AllSpare s loaded k since h
    → Whether so (KeepsBody k w (now_of s loaded h).changes (now_of s loaded (since ++ h)).changes × (NoneConfirms s loaded k since h → body_of k (now_of s loaded (since ++ h)).changes ≡ Some w)) ⊥
