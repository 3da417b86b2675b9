use Rattle.std.proofs.Common.{◌≡◌, ◌++◌, take, drop}
use Rattle.std.specs.Prelude.{length, ◌-◌, ◌≤◌}
use Rattle.rules_fields.specs.Texts.{small}
use Rattle.rules_fields.specs.Meaning.{meanings}
use Rattle.rules_fields.specs.Targeted.{others}
use Rattle.rules_fields.proofs.targeted.take_out.Given as goal

abbrev pub invariant-loop-i : goal.invariant-loop-i
invariant-loop-i l = record {
  kept : meanings (take l.i l.found.items) ++ others (small l.key) (meanings (drop l.i l.found.items)) ≡ others (small l.key) (meanings l.fn.found.items);
  within : l.i ≤ length l.found.items;
}

abbrev pub decreases-loop-i : goal.decreases-loop-i
decreases-loop-i l = length l.found.items - l.i
