use Rattle.std.proofs.Common.{◌≡◌, ◌+◌, drop, false}
use Rattle.std.specs.Prelude.{option_map}
use Rattle.head_directives.specs.Walk.{close}
use Rattle.head_directives.proofs.line.quoted_len.Given as goal

abbrev pub invariant-loop-i : goal.invariant-loop-i
invariant-loop-i l = option_map (λ n. l.i + n) (close l.escaped (drop l.i l.bytes)) ≡ close false l.bytes
