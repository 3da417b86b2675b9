-- The text at a place of a table.
use Rattle.std.proofs.Common.{◌≡◌, ℕ, List, map}
use Rattle.std.specs.Prelude.{slice_get, option_map}
use Rattle.std.proofs.lemmas.Option.{slice_get-map}

pub named_at : {A : Type 0} (v : A → List ℕ) (xs : List A) (k : ℕ) → slice_get (map v xs) k ≡ option_map v (slice_get xs k)
named_at v xs k = slice_get-map v xs k
