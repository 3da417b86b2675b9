use Rattle.std.proofs.Common.{nat_eq, arith}
use Rattle.std.specs.HashMap.{get}
use Rattle.lru_numbers.proofs.FreeLaws.{spent_low, none_below}
use Rattle.lru_numbers.proofs.numbers.search.first_free.Goals as goal

pub returns-then-hash-step-clause-none : goal.returns-then-hash-step-clause-none
returns-then-hash-step-clause-none g c = spent_low c.args.step (get nat_eq c.args.places.now) c.args.hash (let f = c.ranges.hash.fits in omega arith) c.in_default.ensures.none c.requires c.if-hash-step.true

pub returns-clause-none : goal.returns-clause-none
returns-clause-none g c =
    none_below c.args.step (get nat_eq c.args.places.now) c.args.hash (let f = c.ranges.hash.fits in omega arith) c.requires c.if-hash-step.false c.in_default.ensures.none c.next_free-2.result c.next_free-2.ensures.none
