use Rattle.std.proofs.Common.{arith, refl}
use Rattle.tier_shared.proofs.CountLaws.{counted-none}
use Rattle.tier_shared.proofs.counted.Counted.open.Goals as goal

pub invariant_of-result : goal.invariant_of-result
invariant_of-result g c = (
  counted-none _ _ _ _ c.requires.opens c.requires.words refl,
  c.requires.blank.2,
  c.open-book.ensures.total,
  omega (arith, c.open-book.ensures.parts, c.requires.blank),
  omega arith,
  omega arith,
)
