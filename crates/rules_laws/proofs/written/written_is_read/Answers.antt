use Rattle.rules_laws.proofs.Writing.{read_written}
use Rattle.rules_laws.proofs.written.written_is_read.Goals as goal

pub returns : goal.returns
returns c = λ lines h. read_written lines h
