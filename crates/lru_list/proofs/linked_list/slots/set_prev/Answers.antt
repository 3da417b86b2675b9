use Rattle.std.proofs.Common.{ap}
use Rattle.std.proofs.lemmas.List.{map-set}
use Rattle.std.proofs.Math.Seq.{map-set_same}
use Rattle.lru_list.proofs.linked_list.slots.set_prev.Goals as goal

pub returns-clause-prev : goal.returns-clause-prev
returns-clause-prev c = map-set (λ l. l.prev) c.args.links.now.items c.args.i _

pub returns-clause-next : goal.returns-clause-next
returns-clause-next c = map-set_same (λ l. l.next) c.args.links.now.items c.args.i _ c.index_mut.result.now (ap (λ l. l.next) c.index_mut.ensures.value)
