use Rattle.std.proofs.Common.{refl}
use Rattle.request_puts.proofs.put.admit.out_of_memory.Goals as goal

pub returns : goal.returns
returns c = (_, refl, record { stored = refl; admitted = refl; evicted = c.new.ensures.items })
