use Rattle.std.proofs.Common.{arith}
use Rattle.std.proofs.lemmas.Int.{ints, clamps}
use Rattle.rules_storage.proofs.age.earlier.Goals as goal

pub returns-clause-is : goal.returns-clause-is
returns-clause-is c = omega (arith, ints, clamps, c.min.ensures.value)

pub returns-clause-within : goal.returns-clause-within
returns-clause-within c = omega (arith, ints, clamps, c.min.ensures.value)
