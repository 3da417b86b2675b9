use Rattle.std.proofs.Common.{sym, ◌∙◌, drop}
use Rattle.rules_ffi_results.proofs.Decoding.{stops}
use Rattle.rules_ffi_results.proofs.chunk.lines.Goals as goal

pub returns-then-not-is_line-clause-is : goal.returns-then-not-is_line-clause-is
returns-then-not-is_line-clause-is c =
    sym (stops (drop c.loop-i.i c.args.bytes.now) c.loop-i.i c.args.most c.loop-i.now (sym c.is_line.ensures ∙ c.if-not-is_line.true)) ∙ c.loop-i.invariant
