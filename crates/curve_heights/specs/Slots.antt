-- Slots: where entries stand, and the places that they stand for. The latest slot is the first.
use Rattle.std.specs.Prelude.{◌≡◌, ◌≢◌, ℕ, ◌+◌, ◌*◌, ◌==◌, not, Bool, ◌<◌, ◌≤◌, if◌then◌else◌, List, [], ◌∷◌, ◌++◌, length, slice_index, take, drop, sum, count_by}
use Rattle.curve_heights.specs.declared.place.Place.{Place}

-- nobody stands in a slot; an entry stands nowhere
abbrev pub nobody : ℕ
nobody = 4294967295

-- how many slots have an owner
abbrev pub is_owned : ℕ → Bool
is_owned o = not (o == nobody)

abbrev pub owned_in : List ℕ → ℕ
owned_in owners = count_by is_owned owners

-- the places of slots, by their owners and weights, where holes of some weight came before: a slot of nobody's is a hole
abbrev pub places_in : ℕ → List ℕ → List ℕ → List Place
places_in before [] weights = []
places_in before (o ∷ owners) [] = []
places_in before (o ∷ owners) (w ∷ weights) =
    if o == nobody then places_in (before + w) owners weights else record { holes = before; entry = o; weight = w } ∷ places_in 0 owners weights

-- what the holes weigh, by slot
abbrev pub gaps_in : List ℕ → List ℕ → List ℕ
gaps_in [] weights = []
gaps_in (o ∷ owners) [] = []
gaps_in (o ∷ owners) (w ∷ weights) = (if o == nobody then w else 0) ∷ gaps_in owners weights

-- Owners, weights, gaps and slots belong together, and the slots before `next` are free.
pub record IsKept (owners weights gaps slots : List ℕ) (next : ℕ) : Type 0 where
  pub lengths : length weights ≡ length owners
  pub gaps_are : gaps ≡ gaps_in owners weights
  pub owned : (q : ℕ) → q < length owners → slice_index owners q ≢ nobody → (slice_index owners q < length slots) × (slice_index slots (slice_index owners q) ≡ q)
  pub placed : (e : ℕ) → e < length slots → slice_index slots e ≢ nobody → (slice_index slots e < length owners) × (slice_index owners (slice_index slots e) ≡ e)
  pub free : (q : ℕ) → q < next → (slice_index owners q ≡ nobody) × (slice_index weights q ≡ 0)
  pub within : next ≤ length owners
  pub few : length owners < 4294967295
  pub fewer : length slots ≤ 4294967295

-- New slots are being made of the first q: the places so far, with a hole that is to come, and those that are left are all places. New slots of
-- entries tell where they stand now.
pub record IsBuilt (owners weights : List ℕ) (free q hole entries : ℕ) (owners' weights' slots' : List ℕ) : Type 0 where
  pub apart : (os ws : List ℕ) → places_in 0 (owners' ++ os) (weights' ++ ws) ≡ places_in 0 owners' weights' ++ places_in 0 os ws
  pub places : places_in 0 owners' weights' ++ places_in hole (drop q owners) (drop q weights) ≡ places_in 0 owners weights
  pub lengths : length weights' ≡ length owners'
  pub most : length owners' ≤ free + 2 * owned_in (take q owners)
  pub least : free ≤ length owners'
  pub sums : sum weights' + (hole + sum (drop q weights)) ≡ sum weights
  pub owned : (j : ℕ) → j < length owners' → slice_index owners' j ≢ nobody → (slice_index owners' j < length slots') × (slice_index slots' (slice_index owners' j) ≡ j)
  pub came : (j : ℕ) → j < length owners' → slice_index owners' j ≢ nobody → (p : ℕ) × (p < q) × (slice_index owners p ≡ slice_index owners' j)
  pub placed : (e : ℕ) → e < length slots' → slice_index slots' e ≢ nobody → (slice_index slots' e < length owners') × (slice_index owners' (slice_index slots' e) ≡ e)
  pub none : (j : ℕ) → j < free → (slice_index owners' j ≡ nobody) × (slice_index weights' j ≡ 0)
  pub entries_are : length slots' ≡ entries
