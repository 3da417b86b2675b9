-- Where each number's entry is among pairs of entries and numbers.
use Rattle.std.specs.Prelude.{◌≡◌, ◌≢◌, ℕ, ◌%◌, ◌<◌, ◌≤◌, List, Option, Some, None, slice_get}

-- `at` gives the index of each number
pub record IsPlaced {E : Type 0} (at : ℕ → Option ℕ) (pairs : List (E × ℕ)) : Type 0 where
  pub known : (k i : ℕ) → at k ≡ Some i → (e : E) × (slice_get pairs i ≡ Some (e, k))
  pub placed : (i : ℕ) (e : E) (k : ℕ) → slice_get pairs i ≡ Some (e, k) → at k ≡ Some i

-- of the numbers n apart, `from` among them, k is the least from there up to `last` at which there is nothing
pub record IsNextFree {X : Type 0} (n : ℕ) (at : ℕ → Option X) (from last k : ℕ) : Type 0 where
  pub free : at k ≡ None
  pub rest : k % n ≡ from % n
  pub above : from ≤ k
  pub below : k ≤ last
  pub least : (j : ℕ) → from ≤ j → j < k → j % n ≡ from % n → at j ≢ None

-- there is none
abbrev pub HasNoneFree : {X : Type 0} → ℕ → (ℕ → Option X) → ℕ → ℕ → Type 0
HasNoneFree n at from last = (j : ℕ) → from ≤ j → j ≤ last → j % n ≡ from % n → at j ≢ None
