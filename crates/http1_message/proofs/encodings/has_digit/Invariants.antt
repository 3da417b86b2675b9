use Rattle.std.proofs.Common.{◌≡◌, drop}
use Rattle.std.specs.Prelude.{nat_lt}
use Rattle.std.specs.List.{list_any}
use Rattle.http1_message.proofs.encodings.has_digit.Given as goal

abbrev pub invariant-loop-b : goal.invariant-loop-b
invariant-loop-b l = list_any (λ b. nat_lt 48 b) (drop l.b-index l.weight) ≡ list_any (λ b. nat_lt 48 b) l.weight
