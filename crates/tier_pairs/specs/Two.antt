-- Two tiers that serve the same requests side by side.
use Rattle.std.specs.Prelude.{◌≡◌, ℕ, ◌≤◌, Bool, true, ◌↔◌, ◌⊎◌, List, [], ◌∷◌, ◌++◌, Option, Some, None, Result, Ok, Err, Vec}
use Rattle.std.specs.List.{AllByRecursion}
use Rattle.std.specs.declared.alloc.Global.{Global}
use Rattle.rand_core.specs.Stream.{Stream}
use Rattle.cache_entries.specs.declared.entry.CacheEntryKey.{CacheEntryKey}
use Rattle.curve_loads.specs.Steps.{Step}
use Rattle.curve_loads.specs.Loads.{Stays}
use Rattle.curve_loads.specs.Finds.{IsAtMost}
use Rattle.tier_model.specs.declared.event.TierFault.{TierFault}
use Rattle.tier_model.specs.State.{Settings, State}
use Rattle.tier_loads.specs.Requests.{PlainRequest}
use Rattle.tier_loads.specs.Uniform.{weight_in}
use Rattle.tier_served.specs.Requests.{entry_for, step_for}
use Rattle.tier_requests.specs.Faults.{out_of_memory}
use Rattle.tier_served.specs.Serves.{Serves}
use Rattle.tier_served.specs.Uniform.{AreSeenAs, IsUniform, IsPlain}
use Rattle.tier_served.specs.declared.request.Request.{Request}
use Rattle.tier_served.specs.declared.request.Served.{Served}
use Rattle.tier_served.specs.declared.request.Served.TheVariants.{Hit, Filled, Passed, Purged}
use Rattle.tier_pairs.specs.declared.side_by_side.Pair.{Pair}
use Rattle.tier_pairs.specs.declared.side_by_side.Side.{Side}
use Rattle.tier_pairs.specs.declared.side_by_side.Side.TheVariants.{Lesser, Greater}
use Rattle.tier_pairs.specs.declared.side_by_side.Stopped.{Stopped}

-- both tiers served the requests in order, each first the lesser one, with the words from s to rest, and answered these
abbrev pub ServesBoth : State → State → Stream → List Request → List Pair → State → State → Stream → Type 0
ServesBoth l g s [] [] l' g' rest = (l' ≡ l) × (g' ≡ g) × (rest ≡ s)
ServesBoth l g s (r ∷ requests) (p ∷ pairs) l' g' rest =
    (l1 : State) × (g1 : State) × (left : Stream) × (right : Stream) × Serves l s r (Ok p.lesser) l1 left × Serves g left r (Ok p.greater) g1 right
    × ServesBoth l1 g1 right requests pairs l' g' rest
ServesBoth l g s _ _ l' g' rest = ⊥

-- after what both answered so far, the request that comes next was refused to one of them; where there was no room nothing was served
abbrev pub StopsBy : Option Side → State → State → Stream → Request → TierFault → State → State → Stream → Type 0
StopsBy None l g s r f l' g' rest = ⊥
StopsBy (Some Lesser) l g s r f l' g' rest = Serves l s r (Err f) l' rest × (g' ≡ g)
StopsBy (Some Greater) l g s r f l' g' rest = (told : Served) × (left : Stream) × Serves l s r (Ok told) l' left × Serves g left r (Err f) g' rest

abbrev pub Stops : State → State → Stream → List Request → Stopped → State → State → Stream → Type 0
Stops l g s requests stopped l' g' rest =
    ((stopped.side ≡ None) × (stopped.fault ≡ out_of_memory) × (stopped.pairs.items ≡ []) × (l' ≡ l) × (g' ≡ g) × (rest ≡ s))
    ⊎ ((done : List Request) × (r : Request) × (more : List Request) × (l1 : State) × (g1 : State) × (left : Stream) × (requests ≡ done ++ r ∷ more)
    × ServesBoth l g s done stopped.pairs.items l1 g1 left × StopsBy stopped.side l1 g1 left r stopped.fault l' g' rest)

-- each tier's answers are those of its own, in order; at the first fault the pairs so far, the fault, and whose it is
abbrev pub RunsTwo : State → State → Stream → List Request → Result (Vec Pair Global) Stopped → State → State → Stream → Type 0
RunsTwo l g s requests (Ok pairs) l' g' rest = ServesBoth l g s requests pairs.items l' g' rest
RunsTwo l g s requests (Err stopped) l' g' rest = Stops l g s requests stopped l' g' rest

-- ---- what they find

-- one shard each, and no limit of the first greater than the other's: no watermark is the greatest
pub record AreComparable (a b : Settings) : Type 0 where
  pub one : a.shards ≡ 1
  pub other : b.shards ≡ 1
  pub limits : a.limit ≤ b.limit
  pub watermarks : IsAtMost a.watermark b.watermark

-- the requests are uniform, and have plain heads
pub record AreUniform (requests : List Request) (seen : List (Option PlainRequest)) : Type 0 where
  pub plain : AllByRecursion IsPlain requests
  pub seen_as : AreSeenAs requests seen
  pub uniform : IsUniform seen

-- the key was found
abbrev pub found_by : Served → Bool
found_by (Hit body) = true
found_by (Filled found length evicted) = found
found_by (Passed found reason) = found
found_by (Purged found) = found

-- the requests that ask for something
abbrev pub all_seen : List (Option PlainRequest) → List PlainRequest
all_seen [] = []
all_seen (None ∷ seen) = all_seen seen
all_seen (Some p ∷ seen) = p ∷ all_seen seen

-- each request finds its key in each tier exactly where the law of loads says, by limits and watermarks of its own, after the steps of those before, the latest first; and
-- what the first finds the other finds
abbrev pub AreFound : (CacheEntryKey → ℕ) → Settings → Settings → List Step → List Request → List Pair → Type 0
AreFound weight a b before requests [] = Unit {0}
AreFound weight a b before [] (p ∷ pairs) = ⊥
AreFound weight a b before (r ∷ requests) (p ∷ pairs) =
    ((found_by p.lesser ≡ true) ↔ Stays weight a.limit a.watermark (entry_for r) before)
    × ((found_by p.greater ≡ true) ↔ Stays weight b.limit b.watermark (entry_for r) before)
    × (found_by p.lesser ≡ true → found_by p.greater ≡ true)
    × AreFound weight a b (step_for r ∷ before) requests pairs

-- what each entry weighs: what the bodies weigh that requests for it ask for
abbrev pub FindsByLoads : Settings → Settings → List (Option PlainRequest) → List Request → List Pair → Type 0
FindsByLoads a b seen requests pairs = AreFound (weight_in (all_seen seen)) a b [] requests pairs

abbrev pub pairs_of : Result (Vec Pair Global) Stopped → List Pair
pairs_of (Ok pairs) = pairs.items
pairs_of (Err stopped) = stopped.pairs.items
