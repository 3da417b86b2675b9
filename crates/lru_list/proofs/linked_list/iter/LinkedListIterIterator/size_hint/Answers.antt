use Rattle.std.proofs.Common.{refl, arith}
use Rattle.lru_list.proofs.linked_list.iter.LinkedListIterIterator.size_hint.Goals as goal

pub returns-clause-lower : goal.returns-clause-lower
returns-clause-lower g c = rw (← c.self.view_is, c.self.invariant.1) (λ f. omega arith)

pub returns-clause-upper : goal.returns-clause-upper
returns-clause-upper g c = rw (← c.self.view_is, c.self.invariant.1) (tt, omega arith)

pub returns-clause-exact : goal.returns-clause-exact
returns-clause-exact g c = rw (← c.self.view_is, c.self.invariant.1) refl
