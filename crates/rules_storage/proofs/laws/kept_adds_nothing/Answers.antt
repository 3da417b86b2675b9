use Rattle.rules_fields.specs.Types.{stated}
use Rattle.rules_storage.specs.Judge.{stays, stored_lines, kept_from}
use Rattle.rules_storage.proofs.Clean.{adds_nothing, behind_lines}
use Rattle.rules_storage.proofs.laws.kept_adds_nothing.Goals as goal

pub returns : goal.returns
unfolding kept_from
returns c = λ s p asked came o name other none. behind_lines name (stored_lines s.directives o p.lines) (stated p.framing) other (adds_nothing name (stays s.directives o) p.lines none)
