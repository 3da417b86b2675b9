-- What a tier found of the requests that it served.
use Rattle.std.specs.Prelude.{ℕ, ◌+◌, Bool, true, false, ◌&&◌, if◌then◌else◌, List, [], ◌∷◌}
use Rattle.curve_loads.specs.Steps.{Step}
use Rattle.tier_served.specs.declared.request.Request.{Request}
use Rattle.tier_served.specs.declared.request.Method.{Method}
use Rattle.tier_served.specs.declared.request.Method.TheVariants.{Get, Purge}
use Rattle.tier_served.specs.Requests.{step_for}
use Rattle.tier_pairs.specs.declared.side_by_side.Pair.{Pair}
use Rattle.tier_pairs.specs.Two.{found_by}

abbrev pub is_get : Method → Bool
is_get (Get response) = true
is_get Purge = false

-- how many of the gets found their key in the first of two tiers
abbrev pub gets_found : List Request → List Pair → ℕ
gets_found [] pairs = 0
gets_found (r ∷ requests) [] = 0
gets_found (r ∷ requests) (p ∷ pairs) = (if is_get r.method && found_by p.lesser then 1 else 0) + gets_found requests pairs

-- the steps of requests after others, the latest first
abbrev pub steps_after : List Step → List Request → List Step
steps_after before [] = before
steps_after before (r ∷ requests) = steps_after (step_for r ∷ before) requests

abbrev pub steps_in : List Request → List Step
steps_in requests = steps_after [] requests
