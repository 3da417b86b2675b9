use Rattle.std.proofs.Common.{◌≤◌}
use Rattle.std.specs.List.{AllByRecursion}
use Rattle.std.specs.Io.KnownBytes.{prepend_known}
use Rattle.curve_lines.specs.Runs.{IsHalfway, IsPartHalfway}
use Rattle.curve_lines.proofs.Halfway.{IsKept}
use Rattle.curve_lines.proofs.Copying.{IsCopying}
use Rattle.curve_lines.proofs.read.curve.Given as goal

abbrev pub invariant-loop-read : goal.invariant-loop-read
invariant-loop-read g l = record {
  kept : IsKept l.rules l.fn.watermark l.limits.all.items l.readings;
  halfway : IsHalfway l.rules (g.R.Read.remaining l.fn.reader) (prepend_known l.input (g.R.Read.remaining l.reader)) l.readings l.wrong l.read;
  parts : AllByRecursion (IsPartHalfway l.rules (g.R.Read.remaining l.fn.reader) (prepend_known l.input (g.R.Read.remaining l.reader))) l.readings.parts.items;
  copied : IsCopying l.rules l.limits.all.items l.fn.watermark (g.W.Write.contents l.fn.copy) (g.R.Read.remaining l.fn.reader) (prepend_known l.input (g.R.Read.remaining l.reader))
      (g.W.Write.contents l.copy) l.readings;
  few : l.wrong ≤ l.read;
}
