use Rattle.std.proofs.Common.{◌≡◌, take}
use Rattle.tier_model.specs.Response.{joined}
use Rattle.tier_single.proofs.given.copied.Given as goal

abbrev pub invariant-loop-piece : goal.invariant-loop-piece
invariant-loop-piece l = l.bytes.items ≡ joined (take l.piece-index l.pieces)
