use Rattle.std.proofs.Common.{take}
use Rattle.tier_recorded.specs.Seats.{Marks, MarksOnly}
use Rattle.tier_recorded.proofs.marks.marked.Given as goal

abbrev pub invariant-loop-pass : goal.invariant-loop-pass
invariant-loop-pass g l = Marks l.seats (take l.pass-index l.passes) l.history l.marked.items × MarksOnly l.seats (take l.pass-index l.passes) l.marked.items
