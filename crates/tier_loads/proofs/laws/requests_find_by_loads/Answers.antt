use Rattle.tier_loads.proofs.AllRequests.{found-stays, uniform-held}
use Rattle.tier_loads.proofs.Chosen.{chosen-uniform}
use Rattle.tier_loads.proofs.laws.requests_find_by_loads.Goals as goal

pub returns-clause-found : goal.returns-clause-found
returns-clause-found c = λ in_use weight limit watermark r before m bodies u l. found-stays in_use weight limit watermark r before m bodies u l

pub returns-clause-held : goal.returns-clause-held
returns-clause-held c = λ in_use weight limit watermark requests m bodies u l. uniform-held in_use weight limit watermark requests m bodies u l

pub returns-clause-uniform : goal.returns-clause-uniform
returns-clause-uniform c = λ requests i. chosen-uniform requests i
