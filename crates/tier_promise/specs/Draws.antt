-- Which words of a generator pick the evicted entries.
use Rattle.std.specs.Prelude.{◌≡◌, List, [], ◌∷◌, Option, Some, None, option_map, if◌then◌else◌, MatchOption}
use Rattle.rand_core.specs.Stream.{Stream}
use Rattle.cache_evict.specs.Managed.{Managed, Evicts, pick_by_draws}
use Rattle.tier_model.specs.declared.event.Action.{Action}
use Rattle.tier_model.specs.declared.event.Action.TheVariants.{Finish, Revalidate}
use Rattle.tier_model.specs.Response.{Judged, kept}
use Rattle.tier_model.specs.Rows.{FinishedBody}
use Rattle.tier_model.specs.Calls.{Call, Outcome, finished_by, evicted_by}
use Rattle.tier_model.specs.State.{Request, State, shards_of}
use Rattle.tier_model.specs.Answers.{admitted, confirmed_for, is_body_seen, reweighed, finishing}
use Rattle.tier_model.specs.After.{by_request, after}
use Rattle.std.specs.FinMap.{get}

-- the body that a call may finish, in a state: a put's, or that of its request's write
abbrev pub finished_of : State → Action → Option FinishedBody → Option FinishedBody
finished_of s (Finish id) put = by_request None (get s.requests id) (λ q. finishing q s.shelf)
finished_of s _ put = put

-- the order of use with the entry of what a request found weighed anew, where a head that may be kept confirms it, and it is the body of its
-- key still
abbrev pub weighed_for : State → Request → Option Judged → Option Managed
weighed_for s q (Some (kept meta)) = if is_body_seen q s.shelf then Some (reweighed s q meta) else None
weighed_for s q _ = None

abbrev pub evicts_in : State → Action → Call → Option Managed
evicts_in s (Revalidate id head given) c = by_request None (get s.requests id) (λ q. weighed_for s q (confirmed_for q c))
evicts_in s action c = option_map (admitted s) (finished_of s action (finished_by c))

-- the order of use from which the evictions of a call go, in a state: that with the entry of the body admitted that a put or a finish
-- finishes, or that with the entry weighed anew of the body that a revalidation renews
abbrev pub evicts_from : State → Call → Option Managed
evicts_from s c = evicts_in s c.event.action c

-- the entries that an outcome lists as evicted went from that order of use, each from the shard that the next two words of the stream s
-- pick; where there is none, or none went, no word is drawn
abbrev pub AreDrawn : State → Option Managed → Outcome → Stream → Stream → Type 0
AreDrawn old start outcome s rest =
    MatchOption start (rest ≡ s) (λ m. (left : Managed) × Evicts (pick_by_draws (shards_of old)) m (evicted_by outcome) s left rest)

-- the same of calls in order, call after call
abbrev pub AreAllDrawn : State → List Call → Stream → Stream → Type 0
AreAllDrawn old [] s rest = rest ≡ s
AreAllDrawn old (c ∷ calls) s rest = (left : Stream) × AreDrawn old (evicts_from old c) c.outcome s left × AreAllDrawn (after old c) calls left rest
