use Rattle.head_metas.proofs.HeadWriting.{written_spelled, written_again}
use Rattle.head_metas.proofs.laws.head_is_read_again.Goals as goal

pub returns : goal.returns
returns c = record { spelled = written_spelled; read = written_again }
