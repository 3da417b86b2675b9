use Rattle.std.proofs.Common.{◌∷◌}
use Rattle.tier_loads.specs.Uniform.{used_in, weight_in}
use Rattle.tier_loads.proofs.AllRequests.{found-greater, front-greater}
use Rattle.tier_loads.proofs.Chosen.{chosen-uniform}
use Rattle.tier_loads.proofs.laws.a_greater_tier_finds_no_less.Goals as goal

pub returns-clause-found : goal.returns-clause-found
returns-clause-found c = λ limit limit' watermark watermark' r before m m' bodies bodies' l a i s s' h.
    found-greater (used_in (r ∷ before)) (weight_in (r ∷ before)) limit limit' watermark watermark' l a r before m m' bodies bodies' (chosen-uniform (r ∷ before) i) s s' h

pub returns-clause-front : goal.returns-clause-front
returns-clause-front c = λ limit limit' watermark watermark' requests m m' bodies bodies' l a i s s'.
    front-greater (used_in requests) (weight_in requests) limit limit' watermark watermark' l a requests m m' bodies bodies' (chosen-uniform requests i) s s'
