use Rattle.std.proofs.Common.{◌≡◌, ◌<◌, ◌≤◌, ◌^◌, length, drop}
use Rattle.gateway_frames.specs.Frames.{size_line}
use Rattle.gateway_frames.proofs.Digits.{onto}
use Rattle.gateway_frames.proofs.chunks.size_line.Given as goal

abbrev pub invariant-loop-left : goal.invariant-loop-left
invariant-loop-left l = record {
  below : l.from ≤ 16;
  above : 0 < l.from;
  long : length l.text ≡ 18;
  small : l.left < 16 ^ l.from;
  digits : onto l.from l.left (drop l.from l.text) ≡ size_line l.size;
}

abbrev pub decreases-loop-left : goal.decreases-loop-left
decreases-loop-left l = l.from
