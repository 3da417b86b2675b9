use Rattle.std.proofs.Common.{◌≡◌, map}
use Rattle.rules_response.specs.Reply.{piece_of}
use Rattle.gateway_rules.proofs.varying.texts_of.Given as goal

abbrev pub invariant-loop-key : goal.invariant-loop-key
invariant-loop-key l = map (λ k. k.items) l.texts.items ≡ map (λ p. p.before) (map piece_of l.yielded)
