-- What comes into the order of use has room by rows where it has room by shards, and is kept out for the same reasons.
use Rattle.std.proofs.Common.{◌≡◌, ℕ, subst, ◌∷◌}
use Rattle.std.specs.Prelude.{None}
use Rattle.cache_entries.specs.Rows.{weight_of}
use Rattle.cache_entries.specs.declared.entry.CacheEntryKey.{CacheEntryKey}
use Rattle.cache_evict.specs.Managed.{Fits, rows_of, put_first}
use Rattle.cache_lock.specs.Changes.{Changes as LockChanges}
use Rattle.tier_model.specs.declared.event.Done.{Done}
use Rattle.tier_model.specs.declared.event.TierFault.{TierFault}
use Rattle.tier_model.specs.declared.state.Body.{Body}
use Rattle.tier_model.specs.Keys.{Entry, alone}
use Rattle.tier_model.specs.Calls.{nothing_done}
use Rattle.tier_model.specs.Rows.{weight_for}
use Rattle.tier_model.specs.State.{Settings, State, shards_of}
use Rattle.tier_model.specs.Answers.{used, IsKeptOut}
use Rattle.tier_model.proofs.RowSteps.{made-put, made-used}
use Rattle.tier_promise.specs.Promise.{Changes, Now, a_use, puts, rows, rows_with, FitsBeside, KeepsOut, StaysOut}
use Rattle.tier_promise.proofs.NowFits.{NowFits}
use Rattle.tier_promise.proofs.NowGone.{rows-put}
use Rattle.tier_promise.proofs.NowLooks.{rows-used}
use Rattle.tier_promise.proofs.Room.{has-room, kept-out, use-out}

module _ (x : Settings) (s : State) (locks : LockChanges) (now : Now) (fits : NowFits x s locks now) where
  abbrev c : Changes
  c = now.changes

  abbrev N : ℕ
  N = shards_of s

  -- the entry of a body that is stored
  pub put-room : (e : Entry) (w : ℕ) → Fits N (put_first N (alone e) w s.managed) → FitsBeside x (alone e) (rows (puts (alone e) w ∷ c))
  put-room e w p = has-room x (put_first N (alone e) w s.managed) (rows (puts (alone e) w ∷ c)) fits.some (made-put x N (alone e) w s.managed fits.made)
      (rows-put x fits.some N fits.made.shards (alone e) s.managed c fits.rows w) (alone e) (subst (λ (n : ℕ). Fits n (put_first N (alone e) w s.managed)) fits.made.shards p)

  pub entry-out : (e : CacheEntryKey) (w : ℕ) (done : Done) (g : TierFault) → IsKeptOut s e w done g → KeepsOut x e w done g (rows c)
  entry-out e w done g p = kept-out x s (rows c) fits.some fits.made fits.rows e w done g p

  -- a use of what a request found
  module _ (e : CacheEntryKey) (own : Entry) (entry : e ≡ alone own) (found body : Body) (same : found ≡ body) where
    pub use-room : Fits N (used s e found) → FitsBeside x (alone own) (rows_with (a_use (alone own) (weight_for body)) c)
    use-room p = has-room x (used s (alone own) body) (rows_with (a_use (alone own) (weight_for body)) c) fits.some (made-used x N (alone own) (weight_for body) s.managed fits.made)
        (rows-used x fits.some s fits.made.shards own body c fits.rows) (alone own)
        (subst (λ (n : ℕ). Fits n (used s (alone own) body)) fits.made.shards (subst (λ (b : Body). Fits N (used s (alone own) b)) same (subst (λ (y : CacheEntryKey). Fits N (used s y found)) entry p)))

    pub use-kept_out : (g : TierFault) → (weight_of e (rows_of N e s.managed) ≡ None) × IsKeptOut s e (weight_for found) nothing_done g → StaysOut x (a_use (alone own) (weight_for body)) g (rows c)
    use-kept_out g p = use-out x s (rows c) fits.some fits.made fits.rows (alone own) (weight_for body) g
        (subst (λ (b : Body). (weight_of (alone own) (rows_of N (alone own) s.managed) ≡ None) × IsKeptOut s (alone own) (weight_for b) nothing_done g) same
        (subst (λ (y : CacheEntryKey). (weight_of y (rows_of N y s.managed) ≡ None) × IsKeptOut s y (weight_for found) nothing_done g) entry p))
