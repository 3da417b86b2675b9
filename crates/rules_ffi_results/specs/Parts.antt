-- Parts in a caller's table.
use Rattle.std.specs.Option.{option_map_or}
use Rattle.rules_response.specs.Reply.{Piece}
use Rattle.rules_ffi_arguments.specs.Rooms.{behind}
use Rattle.rules_ffi_results.specs.Numbers.{none}
use Rattle.std.specs.Prelude.{◌≡◌, ℕ, ◌+◌, [], ◌∷◌, Bool, true, false, ◌<◌, ◌≤◌, List, ◌++◌, length, drop}
use Rattle.rules_ffi_arguments.specs.declared.shapes.PartShape.{PartShape}

-- parts stand at the front of a table, or don't fit there
abbrev pub Puts : List PartShape → List PartShape → List PartShape → Bool → Type 0
Puts old parts new true = (length parts ≤ length old) × (new ≡ parts ++ drop (length parts) old)
Puts old parts new false = (length old < length parts) × (new ≡ old)

-- the texts in front of parts
abbrev pub befores : List Piece → List ℕ
befores [] = []
befores (p ∷ ps) = p.before ++ befores ps

abbrev pub part_shapes : ℕ → List Piece → List PartShape
part_shapes at [] = []
part_shapes at (p ∷ ps) = record { before = behind at p.before; from = p.from; to = option_map_or (λ n. n) p.to none } ∷ part_shapes (at + length p.before) ps
