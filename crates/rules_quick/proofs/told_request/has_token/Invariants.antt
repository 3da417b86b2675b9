use Rattle.std.proofs.Common.{◌≡◌, drop, map}
use Rattle.std.specs.Prelude.{bytes_eq}
use Rattle.std.specs.List.{list_any}
use Rattle.rules_fields.specs.Texts.{small}
use Rattle.rules_quick.proofs.told_request.has_token.Given as goal

abbrev pub invariant-loop-element : goal.invariant-loop-element
invariant-loop-element l = list_any (λ e. bytes_eq (small e) l.wanted) (map (λ e. e.now) (drop l.element-index l.elements)) ≡ list_any (λ e. bytes_eq (small e) l.wanted) (map (λ e. e.now) l.elements)
