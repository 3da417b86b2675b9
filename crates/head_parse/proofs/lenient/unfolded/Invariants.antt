use Rattle.std.proofs.Common.{◌≡◌, take}
use Rattle.head_parse.specs.Response.{unfolded}
use Rattle.head_parse.proofs.lenient.unfolded.Given as goal

abbrev pub invariant-loop-byte : goal.invariant-loop-byte
invariant-loop-byte l = l.line.items ≡ unfolded (take l.byte-index l.value)
