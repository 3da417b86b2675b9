use Rattle.std.proofs.Common.{refl}
use Rattle.gateway_exchanges.proofs.TableLaws.{index-empty}
use Rattle.gateway_exchanges.proofs.TableLaws.{numbered-empty}
use Rattle.gateway_exchanges.proofs.table.Table.new.Goals as goal

pub invariant_of-result : goal.invariant_of-result
invariant_of-result c = record { index = rw c.with_hasher-2.ensures.empty index-empty; numbered = rw c.with_hasher.ensures.empty numbered-empty }

pub returns : goal.returns
returns c = rw (c.with_hasher.ensures.empty, c.with_hasher-2.ensures.empty) refl
