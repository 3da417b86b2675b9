use Rattle.tier_recorded.proofs.DifferLaws.{AreLeft}
use Rattle.tier_recorded.proofs.differs.difference.Given as goal

abbrev pub invariant-loop-kept : goal.invariant-loop-kept
invariant-loop-kept l = AreLeft l.records l.history l.caller l.turn l.kept-index
