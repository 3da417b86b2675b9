use Rattle.std.proofs.Common.{◌≡◌, ◌++◌, drop, map}
use Rattle.rules_serving.specs.Whole.{told_each}
use Rattle.rules_serving.proofs.whole.add_said.Given as goal

abbrev pub invariant-loop-parameter : goal.invariant-loop-parameter
invariant-loop-parameter l = l.text.items ++ told_each (map (λ h. h.now) (drop l.parameter-index l.how)) ≡ l.fn.text.items ++ told_each (map (λ h. h.now) l.how)
