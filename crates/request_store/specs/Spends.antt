-- How the readers and writers of a request end in a store.
use Rattle.std.specs.Prelude.{◌≡◌, ℕ, Option, Some, None}
use Rattle.cache_store.specs.Answers.{left}
use Rattle.cache_store.specs.StoreState.{StoreState}
use Rattle.cache_store.specs.Readers.{Reader, PartsReader}

-- a reader is spent, if there is one
abbrev pub Spends : {H : Type 0} → (H → Reader) → Option H → StoreState → StoreState → Type 0
Spends reader None old new = new ≡ old
Spends reader (Some hit) old new = PartsReader (reader hit) old new

-- a write is left, if there is one
abbrev pub Leaves : {M : Type 0} → (M → ℕ) → Option M → StoreState → StoreState → Type 0
Leaves number None old new = new ≡ old
Leaves number (Some miss) old new = new ≡ left (number miss) old

-- the write is left, and then the reader is spent
abbrev pub Ends : {H M : Type 0} → (H → Reader) → (M → ℕ) → Option H → Option M → StoreState → StoreState → Type 0
Ends reader number hit miss old new = (mid : StoreState) × Leaves number miss old mid × Spends reader hit mid new
