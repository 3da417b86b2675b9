use Rattle.std.proofs.Common.{◌≡◌, map, drop}
use Rattle.std.specs.List.{list_all}
use Rattle.rules_response.specs.Tagged.{is_tag}
use Rattle.rules_response.proofs.tagged.are_tags.Given as goal

abbrev pub invariant-loop-member : goal.invariant-loop-member
invariant-loop-member l = list_all is_tag (map (λ m. m.now) (drop l.member-index l.members)) ≡ list_all is_tag (map (λ m. m.now) l.members)
