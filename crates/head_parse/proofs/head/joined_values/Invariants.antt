use Rattle.std.proofs.Common.{◌≡◌, take}
use Rattle.head_parse.specs.Heads.{values_at}
use Rattle.head_parse.proofs.head.joined_values.Given as goal

abbrev pub invariant-loop-line : goal.invariant-loop-line
invariant-loop-line l = l.values.items ≡ values_at l.bytes (take l.line-index l.lines)
