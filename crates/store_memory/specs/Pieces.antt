-- The pieces of a write.
use Rattle.std.specs.Prelude.{◌≡◌, ℕ, ◌+◌, ◌^◌, ◌<◌, ◌≤◌, List, [], ◌∷◌, length, take, flat_map}
use Rattle.store_memory.specs.declared.pieces.Piece.{Piece}

-- the bytes of pieces, one after another
abbrev pub bytes_of : List Piece → List ℕ
bytes_of ps = flat_map (λ p. p.bytes) ps

-- The ends of pieces that begin at a place: each is the end before it and its own bytes, of which there are some. The last can be
-- counted.
abbrev pub EndAt : ℕ → List Piece → Type 0
EndAt place [] = place < 2 ^ 64
EndAt place (p ∷ ps) = (0 < length p.bytes) × (p.end ≡ place + length p.bytes) × EndAt p.end ps

-- a place is in the piece with index i
abbrev pub IsIn : ℕ → ℕ → List Piece → Type 0
IsIn place i ps = (i < length ps) × (length (bytes_of (take i ps)) ≤ place) × (place < length (bytes_of (take (i + 1) ps)))
