-- Places: the order of use of numbered entries, latest first, with what the holes in front of each weigh.
use Rattle.std.specs.Prelude.{ℕ, ◌+◌, ◌-◌, ◌==◌, if◌then◌else◌, List, [], ◌∷◌, Option, Some, None, option_map}
use Rattle.curve_heights.specs.declared.place.Place.{Place}

-- what the entry and all in front of it weigh, holes too
abbrev pub height : ℕ → List Place → Option ℕ
height e [] = None
height e (p ∷ places) = if p.entry == e then Some (p.holes + p.weight) else option_map (λ more. p.holes + p.weight + more) (height e places)

-- e leaves, where holes of some weight came before: its hole and those in front of it stand in front of the next entry
abbrev pub without : ℕ → ℕ → List Place → List Place
without e before [] = []
without e before (p ∷ places) =
    if p.entry == e then without e (before + p.holes + p.weight) places else record p { holes = before + p.holes } ∷ without e 0 places

-- a weight is taken from the holes, the latest first
abbrev pub filled : ℕ → List Place → List Place
filled w [] = []
filled w (p ∷ places) = record p { holes = p.holes - w } ∷ filled (w - p.holes) places

-- e is removed
abbrev pub removed : ℕ → List Place → List Place
removed e places = without e 0 places

-- e is asked for: it leaves its place, takes its weight from the holes, and comes first
abbrev pub asked : ℕ → ℕ → List Place → List Place
asked e w places = record { holes = 0; entry = e; weight = w } ∷ filled w (removed e places)

-- what the entries weigh
abbrev pub all_weights : List Place → ℕ
all_weights [] = 0
all_weights (p ∷ places) = p.weight + all_weights places

-- what a place weighs with its holes, and all places
abbrev pub size : Place → ℕ
size p = p.holes + p.weight

abbrev pub all_sizes : List Place → ℕ
all_sizes [] = 0
all_sizes (p ∷ places) = size p + all_sizes places
