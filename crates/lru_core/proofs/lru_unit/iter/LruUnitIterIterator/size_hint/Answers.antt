use Rattle.std.proofs.Common.{arith}
use Rattle.lru_core.proofs.Pairs.{length-pairs_in}
use Rattle.lru_core.proofs.lru_unit.iter.LruUnitIterIterator.size_hint.Goals as goal

pub returns-clause-lower : goal.returns-clause-lower
returns-clause-lower g c = rw (← c.self.view_is, length-pairs_in _ c.self.invariant, c.size_hint.ensures.exact) (λ f. omega arith)

pub returns-clause-upper : goal.returns-clause-upper
returns-clause-upper g c = rw (← c.self.view_is, length-pairs_in _ c.self.invariant, c.size_hint.ensures.exact) (tt, omega arith)

pub returns-clause-exact : goal.returns-clause-exact
returns-clause-exact g c = rw (← c.self.view_is, length-pairs_in _ c.self.invariant) c.size_hint.ensures.exact
