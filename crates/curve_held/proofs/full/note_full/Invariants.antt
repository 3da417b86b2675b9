use Rattle.std.proofs.Common.{◌≡◌, length}
use Rattle.curve_held.specs.State.{AreNoted}
use Rattle.curve_held.proofs.full.note_full.Given as goal

abbrev pub invariant-loop-at : goal.invariant-loop-at
invariant-loop-at l = (length l.full.items ≡ l.at) × AreNoted l.limits l.most l.weight l.number l.now l.fn.full.items l.full.items
