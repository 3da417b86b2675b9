use Rattle.std.proofs.Common.{refl}
use Rattle.std.specs.Prelude.{codes}
use Rattle.rules_fields.specs.Types.{stated}
use Rattle.rules_storage.specs.Judge.{stays, stored_lines, kept_from}
use Rattle.rules_storage.proofs.Clean.{drops, behind_lines, no_age, no_trailer}
use Rattle.rules_storage.proofs.laws.kept_has_no_age.Goals as goal

pub returns : goal.returns
unfolding kept_from
returns c = record {
  age = λ s p asked came o. behind_lines (codes "age") (stored_lines s.directives o p.lines) (stated p.framing) refl (drops (codes "age") (stays s.directives o) p.lines (no_age s.directives o));
  trailer = λ s p asked came o. behind_lines (codes "trailer") (stored_lines s.directives o p.lines) (stated p.framing) refl (drops (codes "trailer") (stays s.directives o) p.lines (no_trailer s.directives o));
}
