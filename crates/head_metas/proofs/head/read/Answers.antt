use Rattle.std.proofs.Common.{arith}
use Rattle.head_metas.specs.HeadReading.{head_at}
use Rattle.head_metas.proofs.HeadLaws.{given, head_found, head_read}
use Rattle.head_metas.proofs.head.read.Goals as goal

pub returns-clause-found : goal.returns-clause-found
returns-clause-found c =
    head_found c.args.bytes.now c.head.result (λ i. omega (arith, c.type_inv.bytes i)) (given head_at c.args.bytes.now _ c.head.result c.head.ensures)

pub returns-clause-only : goal.returns-clause-only
returns-clause-only c = head_read c.args.bytes.now c.head.result (given head_at c.args.bytes.now _ c.head.result c.head.ensures)

pub returns-clause-exact : goal.returns-clause-exact
returns-clause-exact c = given head_at c.args.bytes.now _ c.head.result c.head.ensures
