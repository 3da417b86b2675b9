use Rattle.std.proofs.Common.{rules}
use Rattle.head_metas.proofs.MapLines.{append_all-pairs}
use Rattle.head_packed.proofs.copying.each_copied.Goals as goal

pub returns : goal.returns
returns c = search (rules, append_all-pairs)
