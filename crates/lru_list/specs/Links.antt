-- How the links of the nodes give an order. `next` and `prev` are the columns of links, by index: 0 is the sentinel
-- before the first item, 1 the one after the last.
use Rattle.std.specs.Prelude.{◌≡◌, ℕ, zero, suc, true, false, ◌+◌, ◌-◌, ◌^◌, ◌<◌, ◌≤◌, ◌⊎◌, List, [], ◌∷◌, length, slice_index}
use Rattle.lru_list.specs.Slots.{has, Apart}

-- n steps along the links, from p
abbrev pub walk : List ℕ → ℕ → ℕ → List ℕ
walk next zero p = []
walk next (suc n) p = slice_index next p ∷ walk next n (slice_index next p)

-- p, the indexes and t: each is linked to the one after it, and back
abbrev pub Chain : List ℕ → List ℕ → ℕ → List ℕ → ℕ → Type 0
Chain next prev p [] t = (slice_index next p ≡ t) × (slice_index prev t ≡ p)
Chain next prev p (i ∷ is) t = (slice_index next p ≡ i) × (slice_index prev i ≡ p) × Chain next prev i is t

-- The links give `order`. `held` has no index at rest, and one while a call holds a slot that is neither linked nor
-- freed. `2 ^ 32 - 1` marks the links of freed slots and the outer sides of the sentinels.
pub record IsChained (next prev order free held : List ℕ) : Type 0 where
  pub linked : Chain next prev 0 order 1
  pub apart : Apart order
  pub within : (i : ℕ) → has order i ≡ true → (2 ≤ i) × (i < length next)
  pub live : (i : ℕ) → 2 ≤ i → i < length next → slice_index next i < 2 ^ 32 - 1 → (has order i ≡ true) ⊎ (has held i ≡ true)
  pub freed : (i : ℕ) → has free i ≡ true → (2 ≤ i) × (i < length next) × (slice_index next i ≡ 2 ^ 32 - 1) × (slice_index prev i ≡ 2 ^ 32 - 1) × (has held i ≡ false)
  pub free_apart : Apart free
  pub holds : (i : ℕ) → has held i ≡ true → (2 ≤ i) × (i < length next) × (has order i ≡ false)
  pub counted : length order + length free + length held + 2 ≡ length next
  pub paired : length prev ≡ length next
  pub small : length next ≤ 2 ^ 32 - 1
  pub ends : (slice_index prev 0 ≡ 2 ^ 32 - 1) × (slice_index next 1 ≡ 2 ^ 32 - 1)

-- the order that the links give, where `free` counts the freed slots
abbrev pub order_of : List ℕ → ℕ → List ℕ
order_of next free = walk next (length next - 2 - free) 0
