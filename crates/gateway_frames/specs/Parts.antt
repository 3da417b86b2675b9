-- The pieces of an answer by parts (RFC 9110, 14.6, 15.3.7.2).
use Rattle.std.specs.Prelude.{ℕ, ◌+◌, min, List, [], ◌∷◌}
use Rattle.std.specs.Option.{option_map_or}
use Rattle.gateway_frames.specs.declared.parts.Part.{Part}
use Rattle.gateway_frames.specs.declared.parts.PartPiece.{PartPiece}

abbrev pub body_piece : ℕ → Part → PartPiece
body_piece length part = PartPiece.Body part.from (option_map_or (λ to. min to length) part.to length)

-- of each part its text and its bytes, and what stands behind the last
abbrev pub part_pieces : ℕ → ℕ → List Part → List PartPiece
part_pieces number length [] = PartPiece.After ∷ []
part_pieces number length (part ∷ parts) =
    PartPiece.Before number ∷ (body_piece length part ∷ part_pieces (number + 1) length parts)
