use Rattle.std.proofs.Common.{◌≡◌, drop, map}
use Rattle.http1_message_parts.specs.Query.{is_dropped}
use Rattle.http1_message_parts.proofs.query.is_dropped.Given as goal

abbrev pub invariant-loop-word : goal.invariant-loop-word
invariant-loop-word l = is_dropped (map (λ w. w.now) (drop l.word-index l.words)) l.part ≡ is_dropped (map (λ w. w.now) l.words) l.part
