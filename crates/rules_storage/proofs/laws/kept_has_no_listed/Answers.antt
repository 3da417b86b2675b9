use Rattle.rules_fields.specs.Types.{stated}
use Rattle.rules_storage.specs.Judge.{stays, stored_lines, kept_from}
use Rattle.rules_storage.proofs.Clean.{drops, behind_lines, no_listed, not_length}
use Rattle.rules_storage.proofs.laws.kept_has_no_listed.Goals as goal

pub returns : goal.returns
unfolding kept_from
returns c = λ s p asked came o name listed other.
    behind_lines name (stored_lines s.directives o p.lines) (stated p.framing) (not_length name other) (drops name (stays s.directives o) p.lines (no_listed s.directives o name listed other))
