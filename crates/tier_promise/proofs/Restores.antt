-- A start by puts keeps the order in which they come.
use Rattle.std.proofs.Common.{◌≡◌, refl, [], ◌∷◌, length, List}
use Rattle.tier_model.specs.Calls.{extended}
use Rattle.tier_model.specs.Rows.{FinishedBody}
use Rattle.tier_promise.specs.Promise.{Changes, rows}
use Rattle.tier_promise.specs.Restores.{put_of, restored, all_admitted}

pub rows-restored : (bs : List FinishedBody) (c : Changes) → rows (restored bs c) ≡ all_admitted bs (rows c)
rows-restored [] c = refl
rows-restored (b ∷ bs) c = rows-restored bs (extended c (put_of (length c) b))
