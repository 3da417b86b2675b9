use Rattle.std.proofs.Common.{◌≡◌, ◌++◌, ◌+◌, ◌≤◌, take, length}
use Rattle.std.specs.Vec.{vec_len, vec_capacity}
use Rattle.gateway_state.specs.AtTier.{digests_of}
use Rattle.gateway_state.proofs.outcomes.add_digests.Given as goal

abbrev pub invariant-loop-entry : goal.invariant-loop-entry
invariant-loop-entry l = record {
  told : l.digests.items ≡ l.fn.digests.items ++ digests_of (take l.entry-index l.entries);
  room : vec_len l.digests + length l.entries ≤ vec_capacity l.digests + l.entry-index;
}
