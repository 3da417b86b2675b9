use Rattle.std.proofs.Common.{◌≡◌, ◌+◌, sum}
use Rattle.curve_heights.specs.Places.{filled}
use Rattle.curve_heights.specs.Slots.{places_in, IsKept}
use Rattle.curve_heights.proofs.slots.fill.Given as goal

abbrev pub invariant-loop-left : goal.invariant-loop-left
invariant-loop-left l = record {
  kept : IsKept l.owners l.sums l.gaps l.slots l.next;
  places : filled l.left (places_in 0 l.owners l.sums) ≡ filled l.weight (places_in 0 l.owners l.initial.sums);
  spent : sum l.sums + l.weight ≡ sum l.initial.sums + l.left;
}

abbrev pub decreases-loop-left : goal.decreases-loop-left
decreases-loop-left l = l.left
