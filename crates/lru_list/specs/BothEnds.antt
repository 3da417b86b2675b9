-- Calls of an iterator at both ends, in any mixture.
use Rattle.std.specs.Prelude.{◌≡◌, List, [], ◌∷◌, Option, None, filter_map}
use Rattle.std.specs.Option.{option_map}
use Rattle.std.specs.Iterator.{YieldsFirstBy, YieldsLastBy}

-- a call of `next` or of `next_back`, and what it returned
pub data Call (A : Type 0) : Type 0 where
  next : Option A → Call A
  next_back : Option A → Call A

module _ {A B : Type 0} (view : A → B) where
  -- the calls, in turn, take an iterator with `xs` to come to one with `rest` to come; `view` reads an item
  abbrev pub Gives : List B → List (Call A) → List B → Type 0
  Gives xs [] rest = xs ≡ rest
  Gives xs (next item ∷ calls) rest = (mid : List B) × YieldsFirstBy view (λ ys. ys) xs item mid × Gives mid calls rest
  Gives xs (next_back item ∷ calls) rest = (mid : List B) × YieldsLastBy view (λ ys. ys) xs item mid × Gives mid calls rest

  abbrev pub item_of_front : Call A → Option B
  item_of_front (next item) = option_map view item
  item_of_front (next_back item) = None

  abbrev pub item_of_back : Call A → Option B
  item_of_back (next item) = None
  item_of_back (next_back item) = option_map view item

  -- what came from the front, in turn
  abbrev pub from_front : List (Call A) → List B
  from_front calls = filter_map item_of_front calls

  -- what came from the back, in turn
  abbrev pub from_back : List (Call A) → List B
  from_back calls = filter_map item_of_back calls
