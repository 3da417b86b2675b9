use Rattle.std.proofs.Common.{◌≡◌, ◌++◌, ◌+◌, map, length}
use Rattle.http1_message_parts.specs.Merging.{merged}
use Rattle.http1_message_parts.proofs.query.merged.Given as goal

abbrev pub invariant-loop-back : goal.invariant-loop-back
invariant-loop-back l =
    map (λ p. p.now) l.parts.items ++ merged (map (λ p. p.now) l.front) (map (λ p. p.now) l.back) ≡ merged (map (λ p. p.now) l.first) (map (λ p. p.now) l.second)

abbrev pub decreases-loop-back : goal.decreases-loop-back
decreases-loop-back l = length l.front + length l.back
