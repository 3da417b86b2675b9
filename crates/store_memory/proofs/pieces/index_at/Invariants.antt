use Rattle.std.proofs.Common.{◌+◌, ◌-◌, ◌<◌, ◌≤◌, length, take}
use Rattle.store_memory.specs.Pieces.{bytes_of}
use Rattle.store_memory.proofs.pieces.index_at.Given as goal

abbrev pub invariant-loop-low : goal.invariant-loop-low
invariant-loop-low l = record {
  order : l.low ≤ l.high;
  within : l.high < length l.pieces;
  before : length (bytes_of (take l.low l.pieces)) ≤ l.place;
  after : l.place < length (bytes_of (take (l.high + 1) l.pieces));
}

abbrev pub decreases-loop-low : goal.decreases-loop-low
decreases-loop-low l = l.high - l.low
