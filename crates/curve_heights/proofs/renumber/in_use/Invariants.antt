use Rattle.std.proofs.Common.{◌≡◌, ◌≤◌, take}
use Rattle.curve_heights.specs.Slots.{owned_in}
use Rattle.curve_heights.proofs.renumber.in_use.Given as goal

abbrev pub invariant-loop-owner : goal.invariant-loop-owner
invariant-loop-owner l = record {
  found : l.count ≡ owned_in (take l.owner-index l.owners);
  few : l.count ≤ l.owner-index;
}
