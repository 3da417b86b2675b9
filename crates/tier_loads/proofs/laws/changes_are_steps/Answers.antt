use Rattle.tier_loads.proofs.OneRequest.{holds-found, holds-put, holds-purged, holds-missed, holds-request}
use Rattle.tier_loads.proofs.laws.changes_are_steps.Goals as goal

pub returns-clause-found : goal.returns-clause-found
returns-clause-found c = λ in_use weight limit watermark steps m bodies k b apart h u f. holds-found in_use apart weight limit watermark steps m bodies k b h u f

pub returns-clause-put : goal.returns-clause-put
returns-clause-put c = λ in_use weight limit watermark steps m bodies n b es apart h u w g. holds-put in_use apart weight limit watermark steps m bodies n b es h u w g

pub returns-clause-purged : goal.returns-clause-purged
returns-clause-purged c = λ in_use weight limit watermark steps m bodies k apart h u. holds-purged in_use apart weight limit watermark steps m bodies k h u

pub returns-clause-missed : goal.returns-clause-missed
returns-clause-missed c = λ in_use weight limit watermark steps m bodies k apart h u f. holds-missed in_use apart weight limit watermark steps m bodies k h u f

pub returns-clause-request : goal.returns-clause-request
returns-clause-request c = λ in_use weight limit watermark steps m new bodies after r apart h u w d.
    holds-request in_use apart weight limit watermark r steps m new bodies after h u w d
