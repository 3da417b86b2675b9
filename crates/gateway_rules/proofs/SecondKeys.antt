-- Second keys, in the order of their sets.
use Rattle.std.proofs.Common.{◌≡◌, List, [], ◌∷◌, map, refl, ap, Some}
use Rattle.rules_fields.specs.Types.{Asked, Chosen}
use Rattle.rules_response.specs.Reply.{Piece}
use Rattle.rules_ffi.specs.Sets.{Set}
use Rattle.rules_ffi.specs.Lists.{second_key}

pub befores_of : (a : Asked) (o : Chosen) (sets : List Set)
    → map (λ (p : Piece). p.before) (map (λ s. record { before = second_key a o s; from = 0; to = Some 0 }) sets) ≡ map (second_key a o) sets
befores_of a o [] = refl
befores_of a o (s ∷ ss) = ap (λ l. second_key a o s ∷ l) (befores_of a o ss)
