-- Rows of limits and counts.
use Rattle.std.specs.Prelude.{ℕ, List, [], ◌∷◌}
use Rattle.curve_sizes.specs.declared.row.CurveRow.{CurveRow}
use Rattle.curve_timed.specs.declared.row.FreshRow.{FreshRow}

abbrev pub zipped : List CurveRow → List ℕ → List ℕ → List FreshRow
zipped [] finds bytes = []
zipped (r ∷ rows) [] bytes = []
zipped (r ∷ rows) (f ∷ finds) [] = []
zipped (r ∷ rows) (f ∷ finds) (b ∷ bytes) = record { limit = r.limit; finds = f; bytes = b } ∷ zipped rows finds bytes
