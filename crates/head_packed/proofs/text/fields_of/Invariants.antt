use Rattle.std.proofs.Common.{◌≡◌, ℕ, List, [], length}
use Rattle.std.specs.Prelude.{flat_map}
use Rattle.std.specs.List.{AllByRecursion}
use Rattle.http_header.specs.FieldValue.{FieldValue}
use Rattle.http_header.specs.HeaderMap.{append_all}
use Rattle.head_packed.specs.HeadText.{text_line, IsPlainField}
use Rattle.head_packed.proofs.text.fields_of.Given as goal

-- the fields read so far, and those whose lines are left, are all
abbrev pub invariant-each : goal.invariant-each
invariant-each l = (fields : List (List ℕ × FieldValue)) → AllByRecursion IsPlainField fields → l.text ≡ flat_map text_line fields
    → (left : List (List ℕ × FieldValue)) × AllByRecursion IsPlainField left × (l.rest ≡ flat_map text_line left) × (append_all l.headers left ≡ append_all [] fields)

abbrev pub decreases-each : goal.decreases-each
decreases-each l = length l.rest
