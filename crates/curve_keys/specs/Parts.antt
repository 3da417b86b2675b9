-- Parts of the keys, by a hash that is the same on all machines.
use Rattle.std.specs.Prelude.{ℕ, ◌*◌, ◌%◌, ◌^◌, ◌==◌, Bool, true, bit_xor, if◌then◌else◌, List, [], ◌∷◌, Option, Some, None}
use Rattle.curve_keys.specs.Pasts.{Line}
use Rattle.curve_keys.specs.declared.part.Part.{Part}

-- FNV-1a of 64 bits, from a start
abbrev pub hashed : ℕ → List ℕ → ℕ
hashed h [] = h
hashed h (b ∷ bs) = hashed (bit_xor h b * 1099511628211 % 2 ^ 64) bs

-- the place of a key: its hash modulo a prime, so that all bits of it count
abbrev pub place_of : List ℕ → ℕ
place_of key = hashed 14695981039346656037 key % 1000000007

-- the place is in the part, which is one of so many: the place modulo their number
abbrev pub is_at : Option Part → ℕ → Bool
is_at None place = true
is_at (Some p) place = place % p.of == p.index

abbrev pub is_in : Option Part → List ℕ → Bool
is_in part key = is_at part (place_of key)

-- the line, if its key is in the part
abbrev pub kept : Option Part → Option Line → Option Line
kept part None = None
kept part (Some l) = if is_in part l.key then Some l else None
