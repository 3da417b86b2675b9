use Rattle.head_metas.proofs.InternalWriting.{written_spelled, written_long, written_again}
use Rattle.head_metas.proofs.laws.internal_is_read_again.Goals as goal

pub returns : goal.returns
returns c = record { spelled = written_spelled; long_enough = written_long; read = written_again }
