use Rattle.std.proofs.Common.{◌≡◌, map, drop}
use Rattle.std.specs.Prelude.{find}
use Rattle.http1_message.specs.Encodings.{names}
use Rattle.http1_message.proofs.encodings.first_named.Given as goal

abbrev pub invariant-loop-element : goal.invariant-loop-element
invariant-loop-element l = find (names l.coding) (map (λ e. e.now) (drop l.element-index l.elements)) ≡ find (names l.coding) (map (λ e. e.now) l.elements)
