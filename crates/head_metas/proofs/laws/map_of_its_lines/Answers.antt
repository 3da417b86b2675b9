use Rattle.head_metas.proofs.MapLines.{append_all-pairs}
use Rattle.head_metas.proofs.laws.map_of_its_lines.Goals as goal

pub returns : goal.returns
returns c = append_all-pairs
