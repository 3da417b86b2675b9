use Rattle.std.proofs.Common.{◌≡◌, ◌+◌, ◌≤◌, drop}
use Rattle.head_packed.specs.HeadText.{line_feeds}
use Rattle.head_packed.proofs.text.lines_in.Given as goal

abbrev pub invariant-loop-byte : goal.invariant-loop-byte
invariant-loop-byte l = (l.count + line_feeds (drop l.byte-index l.text) ≡ line_feeds l.text) × (l.count ≤ l.byte-index)
