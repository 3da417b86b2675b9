use Rattle.std.proofs.Common.{◌≡◌, ◌+◌, drop}
use Rattle.rules_ffi_results.specs.Chunks.{lines_from, lines}
use Rattle.rules_ffi_results.proofs.chunk.lines.Given as goal

abbrev pub invariant-loop-i : goal.invariant-loop-i
invariant-loop-i l = lines_from l.i l.most l.now (drop l.i l.bytes) ≡ lines l.most l.fn.chunk l.bytes
