use Rattle.std.proofs.Common.{◌≡◌, map, drop}
use Rattle.std.specs.List.{list_any}
use Rattle.rules_response.specs.Tagged.{has_text}
use Rattle.rules_response.proofs.tagged.has_text_among.Given as goal

abbrev pub invariant-loop-member : goal.invariant-loop-member
invariant-loop-member l = list_any (has_text l.text) (map (λ m. m.now) (drop l.member-index l.members)) ≡ list_any (has_text l.text) (map (λ m. m.now) l.members)
