-- The parts of a body and the forms of a Range, as pairs.
use Rattle.std.specs.Prelude.{ℕ, List, map}
use Rattle.rules_response.specs.Ranges.{Spec}
use Rattle.rules_response.specs.declared.ranges.Span.{Span}
use Rattle.rules_response.specs.declared.ranges.RangeSpec.{RangeSpec}

abbrev pub spec : RangeSpec → Spec
spec s = (s.first, s.last)

abbrev pub specs : List RangeSpec → List Spec
specs ss = map spec ss

abbrev pub span : Span → ℕ × ℕ
span p = (p.from, p.to)

abbrev pub spans : List Span → List (ℕ × ℕ)
spans ps = map span ps
