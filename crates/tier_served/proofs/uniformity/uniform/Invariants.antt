use Rattle.std.proofs.Common.{◌≤◌, length, drop, List, Option}
use Rattle.tier_loads.specs.Requests.{PlainRequest}
use Rattle.tier_served.specs.Uniform.{AreSeenAs}
use Rattle.tier_served.specs.Known.{AreNoted, Knows}
use Rattle.tier_served.proofs.uniformity.uniform.Given as goal

-- the requests from i on were seen
abbrev pub invariant-loop-i : goal.invariant-loop-i
invariant-loop-i g l = record {
  inside : l.i ≤ length l.requests;
  noted : (seen : List (Option PlainRequest)) × AreSeenAs (drop l.i l.requests) seen × AreNoted l.alike seen (Knows l.table);
}

abbrev pub decreases-loop-i : goal.decreases-loop-i
decreases-loop-i g l = l.i
