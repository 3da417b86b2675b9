use Rattle.std.proofs.Common.{of_calls, refl}
use Rattle.pingora_lru.proofs.looks.visit.Goals as goal

pub items-preserved : goal.items-preserved
items-preserved g c =
    (search of_calls, λ last rest. c.items.invariant.1 last (rw c.in-Some.ensures.steps (c.f.new.self, record { shown = c.in-Some.item.0; shows = refl; met = c.f.ensures }, rest)))
