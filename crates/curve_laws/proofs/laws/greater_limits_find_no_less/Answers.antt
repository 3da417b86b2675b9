use Rattle.std.proofs.Common.{ℕ, Option, Some, None, arith}
use Rattle.curve_loads.specs.Finds.{IsAtMost}
use Rattle.curve_loads.proofs.Fronts.{finds-held}
use Rattle.curve_laws.proofs.laws.greater_limits_find_no_less.Goals as goal

at-most-itself : (mark : Option ℕ) → IsAtMost mark mark
at-most-itself None = tt
at-most-itself (Some n) = omega arith

pub returns : goal.returns
returns c = λ weight limit limit' watermark steps l. finds-held limit limit' watermark watermark l (at-most-itself watermark) weight steps
