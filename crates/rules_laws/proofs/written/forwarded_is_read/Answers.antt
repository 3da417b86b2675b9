use Rattle.rules_forward.specs.Forward.{forward}
use Rattle.rules_laws.proofs.Forwarding.{forward_can}
use Rattle.rules_laws.proofs.Writing.{read_written}
use Rattle.rules_laws.proofs.written.forwarded_is_read.Goals as goal

pub returns : goal.returns
returns c = λ r peer o method minor lines host pf pc nf nc. read_written (forward r peer o) (forward_can r peer o method minor lines host pf pc nf nc)
