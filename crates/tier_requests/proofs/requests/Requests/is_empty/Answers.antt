use Rattle.tier_requests.proofs.TableLaws.{same-none}
use Rattle.tier_requests.proofs.requests.Requests.is_empty.Goals as goal

pub returns : goal.returns
returns g c =
    let same = same-none c.self.inside.table.entries in
    rw (← c.self.view_is) ((λ t. same.0 (c.is_empty.ensures.0 t)), (λ e. c.is_empty.ensures.1 (same.1 e)))
