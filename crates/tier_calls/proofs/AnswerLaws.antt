-- What a handle holds after an event.
use Rattle.std.proofs.Common.{◌≡◌, ℕ, sym, ap, ◌∙◌, subst}
use Rattle.rand_pcg.specs.Lcg.{Lcg}
use Rattle.tier_model.specs.Calls.{Outcome}
use Rattle.tier_model.specs.declared.event.Event.{Event}
use Rattle.tier_calls.specs.Answers.{words_of, IsAnsweredBy}
use Rattle.tier_calls.specs.Told.{told_of, evicted_in}
use Rattle.tier_calls.specs.Tiers.{Steps}
use Rattle.tier_calls.specs.declared.held.TierHandle.{TierHandle}
use Rattle.tier_calls.specs.declared.shards.Shards.{Shards}
use Rattle.tier_calls.specs.declared.structs.CallAnswer.{CallAnswer}

pub answered-by : (h : TierHandle) (e : Event) (o : Outcome) (out : CallAnswer) (tier : Shards) (rng : Lcg) (h' : TierHandle)
    → Steps h.tier (words_of h.rng) e o tier (words_of rng) → out ≡ told_of o → h' ≡ record h { tier = tier; rng = rng; evicted = evicted_in o } → IsAnsweredBy h e o out h'
answered-by h e o out tier rng h' steps told kept = (
  subst (λ (x : TierHandle). Steps h.tier (words_of h.rng) e o x.tier (words_of x.rng)) (sym kept) steps,
  told,
  kept ∙ ap (λ (x : TierHandle). record h { tier = x.tier; rng = x.rng; evicted = evicted_in o }) (sym kept),
)
