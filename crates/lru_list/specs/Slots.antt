-- What a linked list holds, as callers see it: slots that are named by their indexes, and an order over them.
use Rattle.std.specs.Prelude.{◌≡◌, ℕ, Bool, true, false, cond, ◌==◌, ◌+◌, ◌^◌, ◌<◌, ◌≤◌, List, [], ◌∷◌, ◌++◌, length, slice_get, slice_index, slice_set, Some}
use Rattle.std.specs.List.{filter_map}

-- `order` has the indexes of the items, first to last; `items` has what each slot holds, sentinels and freed slots
-- too; `free` has the freed indexes, the one that is reused next at the end
pub record Slots (K : Type 0) : Type 0 where
  pub order : List ℕ
  pub items : List K
  pub free : List ℕ

-- i is among the indexes
abbrev pub has : List ℕ → ℕ → Bool
has [] i = false
has (x ∷ xs) i = cond (x == i) true (has xs i)

-- the indexes other than i
abbrev pub without : ℕ → List ℕ → List ℕ
without i [] = []
without i (x ∷ xs) = cond (x == i) (without i xs) (x ∷ without i xs)

-- no index occurs twice
abbrev pub Apart : List ℕ → Type 0
Apart [] = Unit {0}
Apart (x ∷ xs) = (has xs x ≡ false) × Apart xs

-- index i goes out of the order and is freed; its slot then holds d
abbrev pub freed : {K : Type 0} → Slots K → ℕ → K → Slots K
freed s i d = record { order = without i s.order; items = slice_set s.items i d; free = s.free ++ i ∷ [] }

-- the last index, i, which held x, goes out of the order and is freed; its slot then holds d
abbrev pub IsPopped : {K : Type 0} → Slots K → ℕ → K → K → Slots K → Type 0
IsPopped old i x d new = (slice_get old.items i ≡ Some x) × (old.order ≡ new.order ++ i ∷ []) × (new.items ≡ slice_set old.items i d) × (new.free ≡ old.free ++ i ∷ [])

-- the items that the indexes name, in their order
abbrev pub listed : {K : Type 0} → List K → List ℕ → List K
listed items is = filter_map (slice_get items) is

-- the items of a list, first to last
abbrev pub in_order : {K : Type 0} → Slots K → List K
in_order s = listed s.items s.order

-- Two ends of a walk over an order: `from` indexes were passed at the front, `left` are still to come. `front` is the
-- first of these and `back` the last; with none to come they are the neighbours of the place between.
pub record IsBetween (order : List ℕ) (front back from left : ℕ) : Type 0 where
  pub within : from + left ≤ length order
  pub small : from + left < 2 ^ 64
  pub first : front ≡ slice_index (order ++ 1 ∷ []) from
  pub last : back ≡ slice_index (0 ∷ order) (from + left)
