use Rattle.std.proofs.Common.{◌≡◌, ◌++◌, drop, map}
use Rattle.rules_ffi_results.proofs.how.Parameters.lent.Given as goal

abbrev pub invariant-loop-text : goal.invariant-loop-text
invariant-loop-text l = map (λ t. t.now) l.texts.items ++ map (λ t. t.items) (drop l.text-index l.self.texts.items) ≡ map (λ t. t.items) l.self.texts.items
