-- What a closure makes of a row's data and weight, and that it was called with them.
use Rattle.std.specs.Prelude.{◌≡◌, ℕ, ◌+◌, ◌<◌, ◌⊎◌, ◌∷◌, [], ⊤, List, Option, Some, None, max}
use Rattle.std.specs.Borrow.{Bor, MutBor}
use Rattle.std.specs.Fn.{Once, Mut, Called}
use Rattle.lru_core.specs.declared.rows.Row.{Row}
use Rattle.lru_core.specs.declared.lru_unit.fault.LruFault.{LruFault}
use Rattle.lru_core.specs.declared.lru_unit.fault.LruFault.TheVariants.{Memory, Weight, Length}
use Rattle.lru_core.specs.Rows.{only, others, put, total_weight, a_row, admitted, IsLong, Fits}

-- A call of f at a `&mut` to the data d and at the weight w may leave the data d' and ask for the weight w'.
pub record Updates {F T : Type 0} (g : Once F (MutBor T × (ℕ × ⊤)) (ℕ × (MutBor T × ⊤))) (f : F) (d : T) (w : ℕ) (d' : T) (w' : ℕ) : Type 0 where
  pub shown : MutBor T
  pub shows : shown.now ≡ d
  pub left : MutBor T
  pub met : g.post f (shown, (w, tt)) (w', (left, tt))
  pub leaves : left.now ≡ d'

-- A call of f at a `&` to the data of a pair and at its weight may leave f'.
pub record Visits {F T : Type 0} (g : Mut F ((Bor T × ℕ) × ⊤) ⊤) (f : F) (pair : T × ℕ) (f' : F) : Type 0 where
  pub shown : Bor T
  pub shows : shown.now ≡ pair.0
  pub met : Called g f ((shown, pair.1), tt) tt f'

-- The row of key k was `row`; f was called with its data and weight, made the data d and asked for the weight w.
abbrev pub UpdatesRow : {F T : Type 0} → Once F (MutBor T × (ℕ × ⊤)) (ℕ × (MutBor T × ⊤)) → F → ℕ → List (Row T) → Row T → T → ℕ → Type 0
UpdatesRow g f k rows row d w = (only k rows ≡ row ∷ []) × Updates g f row.«data» row.weight d w

-- Key k is at the front with what f made of its row. It weighed `before`, and now `after`, which is 1 at least.
abbrev pub IsUpdated : {F T : Type 0} → Once F (MutBor T × (ℕ × ⊤)) (ℕ × (MutBor T × ⊤)) → F → ℕ → List (Row T) → ℕ → ℕ → List (Row T) → Type 0
IsUpdated {F} {T} g f k old before after new =
    (row : Row T) × (d : T) × (w : ℕ) × UpdatesRow g f k old row d w × (before ≡ row.weight) × (after ≡ max 1 w) × (new ≡ admitted k d w old)

-- The same, by the weight that was returned for a key that was there.
abbrev pub WasUpdated : {F T : Type 0} → Once F (MutBor T × (ℕ × ⊤)) (ℕ × (MutBor T × ⊤)) → F → ℕ → List (Row T) → Option ℕ → List (Row T) → Type 0
WasUpdated g f k old before new = (w : ℕ) × (now : ℕ) × (before ≡ Some w) × IsUpdated g f k old w now new

-- The weight that f asked for passes the bound. Key k has the data that f made; its weight and its place are as before.
abbrev pub IsUpdateRefused : {F T : Type 0} → Once F (MutBor T × (ℕ × ⊤)) (ℕ × (MutBor T × ⊤)) → F → ℕ → List (Row T) → ℕ → LruFault (Option T) → List (Row T) → Type 0
IsUpdateRefused {F} {T} g f k old bound fault new =
    (fault ≡ Weight None)
    × ((row : Row T) × (d : T) × (w : ℕ) × UpdatesRow g f k old row d w × (bound < total_weight (others k old) + max 1 w) × (new ≡ put (a_row k d row.weight) old))

-- why a new key with data d and weight w is refused by a shard of these rows and that bound
abbrev pub IsRefused : {T : Type 0} → T → ℕ → List (Row T) → ℕ → LruFault (Option T) → Type 0
IsRefused d w rows bound fault =
    ((fault ≡ Memory (Some d)) × Fits bound (max 1 w) rows) ⊎ (((fault ≡ Weight (Some d)) × (bound < total_weight rows + max 1 w)) ⊎ ((fault ≡ Length (Some d)) × IsLong bound rows))
