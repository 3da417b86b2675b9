use Rattle.std.proofs.Common.{arith}
use Rattle.lru_core.proofs.Summed.{recounted}
use Rattle.lru_core.proofs.sharded.totals.Totals.recount.Goals as goal

pub overflow_sub-self : goal.overflow_sub-self
overflow_sub-self g c = (recounted c.requires.within c.requires.changed c.index.ensures c.of-after.ensures).len_in

pub overflow_add-self : goal.overflow_add-self
overflow_add-self g c = let f = (recounted c.requires.within c.requires.changed c.index.ensures c.of-after.ensures).len_fits in omega arith

pub overflow_sub-self-2 : goal.overflow_sub-self-2
overflow_sub-self-2 g c = (recounted c.requires.within c.requires.changed c.index.ensures c.of-after.ensures).weight_in

pub overflow_add-self-2 : goal.overflow_add-self-2
overflow_add-self-2 g c = let f = (recounted c.requires.within c.requires.changed c.index.ensures c.of-after.ensures).weight_fits in omega arith

pub returns : goal.returns
returns g c = (recounted c.requires.within c.requires.changed c.index.ensures c.of-after.ensures).summed
