-- What a contract sees, by its parts.
use Rattle.std.proofs.Common.{◌≡◌, ℕ, ◌∙◌, true, false}
use Rattle.std.specs.Prelude.{Bool, List}
use Rattle.cache_heads.specs.declared.meta.CacheMeta.{CacheMeta}
use Rattle.cache_changes.specs.Store.{Stored, Flying, on_flying, with_bytes, ended}
use Rattle.cache_store.specs.StoreState.{Reading, StoreState}
use Rattle.store_memory.specs.Kept.{written}
use Rattle.cache_store.specs.Answers.{after_write}
use Rattle.store_memory.proofs.FlightLaws.{seen-written}

abbrev pub held : List (Stored CacheMeta) → List (Flying CacheMeta) → ℕ → List Reading → StoreState
held bodies flying next readings = record { store = record { bodies = bodies; flying = flying }; next = next; readings = readings }

pub held-flying : (bodies : List (Stored CacheMeta)) (f g : List (Flying CacheMeta)) (next : ℕ) (readings : List Reading) → f ≡ g → held bodies f next readings ≡ held bodies g next readings
held-flying bodies f g next readings e = λ i. held bodies (e i) next readings

pub held-next : (bodies : List (Stored CacheMeta)) (f g : List (Flying CacheMeta)) (n m : ℕ) (readings : List Reading) → f ≡ g → n ≡ m → held bodies f n readings ≡ held bodies g m readings
held-next bodies f g n m readings e h = λ i. held bodies (e i) (h i) readings

-- bytes that came, perhaps the last
pub held-written : (bodies : List (Stored CacheMeta)) (f g : List (Flying CacheMeta)) (next : ℕ) (readings : List Reading) (n : ℕ) (more : List ℕ) (eof : Bool) → f ≡ on_flying n (written more eof) g
    → held bodies f next readings ≡ record { store = after_write n more eof (record { bodies = bodies; flying = g }); next = next; readings = readings }
held-written bodies f g next readings n more true e = held-flying bodies f (on_flying n ended (on_flying n (with_bytes more) g)) next readings (e ∙ seen-written n more g)
held-written bodies f g next readings n more false e = held-flying bodies f (on_flying n (with_bytes more) g) next readings e
