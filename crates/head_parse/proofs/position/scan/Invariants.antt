use Rattle.std.proofs.Common.{◌≡◌, ◌<◌, ◌≤◌, ℕ, take}
use Rattle.std.specs.Prelude.{◌≢◌}
use Rattle.head_parse.specs.Positions.{position_after}
use Rattle.head_parse.specs.declared.position.Position.TheVariants.{AfterEmptyLine}
use Rattle.head_parse.proofs.position.scan.Given as goal

abbrev pub invariant-loop-i : goal.invariant-loop-i
invariant-loop-i l = record {
  position : l.position ≡ position_after l.fn.from (take l.i l.bytes);
  quiet : (n : ℕ) → 0 < n → n ≤ l.i → position_after l.fn.from (take n l.bytes) ≢ AfterEmptyLine;
}
