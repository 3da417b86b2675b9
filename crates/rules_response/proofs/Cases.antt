-- The answer by how many parts there are.
use Rattle.std.proofs.Common.{◌≡◌, ℕ, ◌≤◌, List, [], ◌∷◌, refl, length, arith}
use Rattle.rules_fields.specs.Types.{KeptHead, Chosen}
use Rattle.rules_response.specs.declared.ranges.Span.{Span}
use Rattle.rules_response.specs.Spans.{spans}
use Rattle.rules_response.specs.Answering.{by_parts, several_parts}

pub several : (ss : List Span) (kept : KeptHead) (n now : ℕ) (boundary : List ℕ) (how : List (List ℕ)) (o : Chosen) → 2 ≤ length ss → by_parts (spans ss) kept n now boundary how o ≡ several_parts kept (spans ss) n now boundary how o
several [] kept n now boundary how o e = absurd (omega (arith, e))
several (p ∷ []) kept n now boundary how o e = absurd (omega (arith, e))
several (p ∷ q ∷ ss) kept n now boundary how o e = refl
