-- Requests with their moments, without the weights that they say.
use Rattle.std.specs.Prelude.{List, [], ◌∷◌}
use Rattle.curve_sizes.specs.Requests.{Request, asks, removes}
use Rattle.curve_fresh.specs.Fresh.{Timed}
use Rattle.curve_fresh.specs.Fresh as timed

abbrev pub timed_of : List Request → List Timed
timed_of [] = []
timed_of (asks e w t ∷ before) = timed.asks e t.moment t.lifetime ∷ timed_of before
timed_of (removes e ∷ before) = timed.removes e ∷ timed_of before
