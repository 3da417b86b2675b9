-- Calls of a manager, one after another, none refused.
use Rattle.std.specs.Prelude.{◌≡◌, ℕ, ◌≤◌, false, List, [], ◌∷◌}
use Rattle.rand_core.specs.Stream.{Stream}
use Rattle.cache_entries.specs.declared.entry.CacheEntryKey.{CacheEntryKey}
use Rattle.cache_entries.specs.declared.rows.Tracked.{Tracked}
use Rattle.cache_evict.specs.Managed.{Managed, Evicts, put_first, use_first, taken_out, is_over}

pub data ManagerCall : Type 0 where
  Admit : CacheEntryKey → ℕ → ManagerCall
  Access : CacheEntryKey → ℕ → ManagerCall
  Remove : CacheEntryKey → ManagerCall

-- each entry that is put has a size from 1
abbrev pub AreSized : List ManagerCall → Type 0
AreSized [] = Unit {0}
AreSized (Admit e size ∷ calls) = (1 ≤ size) × AreSized calls
AreSized (Access e size ∷ calls) = (1 ≤ size) × AreSized calls
AreSized (Remove e ∷ calls) = AreSized calls

-- what a call evicts and leaves, of a manager of n shards that picks by `pick`, where an entry that is put weighs `weighed` of its size
abbrev pub DoesManagerCall : (List (List Tracked) → Stream → ℕ × Stream) → ℕ → (ℕ → ℕ) → Managed → Stream → ManagerCall → List CacheEntryKey → Managed → Stream → Type 0
DoesManagerCall pick n weighed old s (Admit e size) gone new rest = Evicts pick (put_first n e (weighed size) old) gone s new rest × (is_over new ≡ false)
DoesManagerCall pick n weighed old s (Access e size) gone new rest = (gone ≡ []) × (new ≡ use_first n e (weighed size) old) × (rest ≡ s)
DoesManagerCall pick n weighed old s (Remove e) gone new rest = (gone ≡ []) × (new ≡ taken_out n e old) × (rest ≡ s)

-- the same of calls in turn, with what each evicts
abbrev pub Runs : (List (List Tracked) → Stream → ℕ × Stream) → ℕ → (ℕ → ℕ) → Managed → Stream → List ManagerCall → List (List CacheEntryKey) → Managed → Stream → Type 0
Runs pick n weighed old s [] [] new rest = (new ≡ old) × (rest ≡ s)
Runs pick n weighed old s [] (gone ∷ more) new rest = ⊥
Runs pick n weighed old s (call ∷ calls) [] new rest = ⊥
Runs pick n weighed old s (call ∷ calls) (gone ∷ more) new rest =
    (mid : Managed) × (left : Stream) × DoesManagerCall pick n weighed old s call gone mid left × Runs pick n weighed mid left calls more new rest
