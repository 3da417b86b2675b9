use Rattle.std.proofs.Common.{◌≡◌, ◌+◌, ◌*◌, ◌<◌, ℕ, length}
use Rattle.curve_sums.proofs.Fronts.{at, front}
use Rattle.curve_sums.proofs.level.blocks_of.Given as goal

abbrev pub invariant-loop-block : goal.invariant-loop-block
invariant-loop-block l = record {
  many : length l.above.items ≡ l.block;
  each : (b : ℕ) → b < l.block → front l.level (64 * b) + at l.above.items b ≡ front l.level (64 * (b + 1));
}
