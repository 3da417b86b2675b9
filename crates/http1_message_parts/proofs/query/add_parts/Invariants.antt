use Rattle.std.proofs.Common.{◌≡◌, ◌++◌, map, drop}
use Rattle.http1_message_parts.specs.Query.{marked}
use Rattle.http1_message_parts.proofs.query.add_parts.Given as goal

abbrev pub invariant-loop-part : goal.invariant-loop-part
invariant-loop-part l = l.text.items ++ marked l.mark (map (λ p. p.now) (drop l.part-index l.parts)) ≡ l.fn.text.items ++ marked 63 (map (λ p. p.now) l.parts)
