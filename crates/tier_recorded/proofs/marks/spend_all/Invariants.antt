use Rattle.std.proofs.Common.{◌≡◌, ◌≤◌, ◌+◌, ◌++◌, length, vec_len, vec_capacity}
use Rattle.tier_recorded.specs.Seats.{total}
use Rattle.tier_recorded.proofs.marks.spend_all.Given as goal

abbrev pub invariant-loop-pass : goal.invariant-loop-pass
invariant-loop-pass g l = record {
  items : l.gathered.items ++ l.rest.items ≡ l.fn.gathered.items ++ l.fn.passes.items;
  room : vec_len l.gathered + length l.rest.items ≤ vec_capacity l.gathered;
  parts : l.owner.parts + length l.rest.items ≡ l.fn.owner.parts + length l.fn.passes.items;
  amount : l.owner.amount + total l.rest.items ≡ l.fn.owner.amount + total l.fn.passes.items;
}

abbrev pub decreases-loop-pass : goal.decreases-loop-pass
decreases-loop-pass g l = length l.rest.items
