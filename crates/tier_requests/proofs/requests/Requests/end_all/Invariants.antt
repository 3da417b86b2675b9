use Rattle.std.proofs.Common.{◌≡◌, length}
use Rattle.tier_requests.specs.Shelves.{shelf_of}
use Rattle.tier_requests.proofs.TableLaws.{map_of}
use Rattle.tier_requests.proofs.EndAllLaws.{EndsSoFar}
use Rattle.tier_requests.proofs.requests.Requests.end_all.Given as goal

abbrev pub invariant-loop-id : goal.invariant-loop-id
invariant-loop-id g l = record {
  ended : EndsSoFar (map_of l.initial.table.entries) (shelf_of l.initial.parts.store) l.initial.parts.lock (map_of l.table.entries) (shelf_of l.parts.store) l.parts.lock;
  parts : l.parts ≡ record l.initial.parts { store = l.parts.store; lock = l.parts.lock };
}

abbrev pub decreases-loop-id : goal.decreases-loop-id
decreases-loop-id g l = length l.table.entries
