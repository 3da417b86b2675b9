-- A start by puts, none of which evicts anything.
use Rattle.std.specs.Prelude.{ℕ, true, List, [], ◌∷◌, length}
use Rattle.cache_entries.specs.declared.rows.Tracked.{Tracked}
use Rattle.cache_entries.specs.Rows.{admitted}
use Rattle.tier_model.specs.Calls.{extended}
use Rattle.tier_model.specs.Keys.{alone}
use Rattle.tier_model.specs.Rows.{FinishedBody, weight_for}
use Rattle.tier_promise.specs.Promise.{Change, Changes, begins, appends, lands, puts}

-- what a put changes of a body, before which there were so many changes
abbrev pub put_of : ℕ → FinishedBody → List Change
put_of n b = begins (record { number = n; entry = b.entry; meta = b.body.meta }) ∷ appends n b.body.bytes true ∷ lands n true ∷ puts (alone b.entry) (weight_for b.body) ∷ []

-- the bodies are put in order
abbrev pub restored : List FinishedBody → Changes → Changes
restored [] c = c
restored (b ∷ bs) c = restored bs (extended c (put_of (length c) b))

-- their entries come into the order of use in order
abbrev pub all_admitted : List FinishedBody → List Tracked → List Tracked
all_admitted [] rows = rows
all_admitted (b ∷ bs) rows = all_admitted bs (admitted (alone b.entry) (weight_for b.body) rows)
