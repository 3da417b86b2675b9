use Rattle.std.proofs.Common.{◌≡◌, ◌++◌, ◌+◌, [], map, length}
use Rattle.std.specs.Option.{option_map_or}
use Rattle.http1_message_parts.specs.Query.{kept_parts}
use Rattle.http1_message_parts.proofs.query.kept_parts.Given as goal

abbrev pub invariant-loop-left : goal.invariant-loop-left
invariant-loop-left l =
    map (λ p. p.now) l.kept.items ++ option_map_or (λ t. kept_parts (map (λ w. w.now) l.words) t.now) l.left [] ≡ kept_parts (map (λ w. w.now) l.words) l.query

abbrev pub decreases-loop-left : goal.decreases-loop-left
decreases-loop-left l = option_map_or (λ t. length t.now + 1) l.left 0
